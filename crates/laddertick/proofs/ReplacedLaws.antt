-- Every change that 01, "One line changed", names is one of the claim `one_line` (`replaces`). Assumes nothing.
use mathlib.Core.Path.{◌≡◌, refl, ap, subst, ◌∙◌}
use mathlib.Core.List.{List, ◌∷◌, ◌++◌}
use Prim.Native.Nat.{ℕ}
use Rattle.walk_theory.specs.Division.{Division, done, more}
use Rattle.walk_theory.specs.Normal.{each}
use Rattle.walk_theory.proofs.DivisionLaws.{parted, front_solid}
use Rattle.walk_theory.proofs.SolidLaws.{each_append}
use Rattle.grammar.specs.Epl.{epl}
use Rattle.grammar.specs.Units.{EplUnit, bytes, Stands}
use Rattle.grammar.proofs.FoundLaws.{reads, firm}
use Rattle.line_changes.specs.OneLine.{Ending, lf, end, unit_of, Changeable, EndsBy, Replaced}
use Rattle.laddertick.specs.Replacing.{Draws, Replacing}

-- a divided string is the bytes of its units
divided_bytes : {s : List ℕ} {us : List EplUnit} → Division epl s us → s ≡ each bytes us
divided_bytes done = refl
divided_bytes (more {u} {us} {s} {rest} e st d) = e ∙ ap (λ (x : List ℕ). bytes u ++ x) (divided_bytes d)

-- a line that stands
changeable : (e : Ending) (t rest : List ℕ) → Stands (unit_of e t) rest → Draws t → Changeable t
changeable lf t rest st d = record { one_line = st.one_line; no_graphic = st.no_graphic; no_n = d.no_n; no_reference = d.no_reference; no_print = d.no_print }
changeable end t rest st d = record { one_line = st.0.one_line; no_graphic = st.0.no_graphic; no_n = d.no_n; no_reference = d.no_reference; no_print = d.no_print }

ends_by : (e : Ending) (t rest : List ℕ) → Stands (unit_of e t) rest → EndsBy e t rest
ends_by lf t rest st = tt
ends_by end t rest st = (st.1, st.2)

pub replaces : (s s' t t' : List ℕ) (e : Ending) (before behind : List EplUnit) → Replacing s s' t t' e before behind → Replaced s s' t t' e before
replaces s s' t t' e before behind r = let p = parted epl before (unit_of e t ∷ behind) r.old in by p.behind p.whole
  where
    by : {x : List ℕ} → Division epl x (unit_of e t ∷ behind) → s ≡ each bytes before ++ x → Replaced s s' t t' e before
    by (more {rest} q st d) w =
        let k = divided_bytes d in
        let st' = subst (Stands (unit_of e t)) k st in
        record {
          front = each bytes before;
          back = each bytes behind;
          old = w ∙ ap (λ (x : List ℕ). each bytes before ++ x) (q ∙ ap (λ (x : List ℕ). bytes (unit_of e t) ++ x) k);
          new = r.new ∙ each_append bytes before (unit_of e t' ∷ behind);
          in_front = refl;
          begins = (front_solid epl firm reads before (unit_of e t) behind r.old).0;
          old_ends = ends_by e t (each bytes behind) st';
          new_ends = ends_by e t' (each bytes behind) r.line;
          old_line = changeable e t (each bytes behind) st' r.old_draws;
          new_line = changeable e t' (each bytes behind) r.line r.new_draws;
        }
