-- The strict reading of EPL: it can be read (`strict_epl_reads`), walks along the plain one up to 17 or 18 (`along`),
-- and divides where the plain one does and every field is as the profile asks (`strict_divides`, `divides_strict`); 17
-- and 18 tell the first field that is not (`fails_objected`). Assumes nothing.
use mathlib.Core.Path.{◌≡◌, refl, sym, ap, subst, ◌∙◌}
use mathlib.Core.List.{List, [], ◌++◌}
use mathlib.Core.Logic.{◌⊎◌, inl, inr}
use mathlib.Core.Option.{Option, none, some}
use Prim.Native.Nat.{ℕ, ◌+◌, ◌≤◌}
use native.Mathlib.Omega.{arith}
use lib.ListN.{length, drop}
use lib.Seq.{drop-append_seam, drop-drop}
use Rattle.elements.specs.declared.LabelElement.{LabelElement}
use Rattle.elements.specs.declared.LabelPosition.{LabelPosition}
use Rattle.command_letters.specs.Command.{is_reference, is_print, command_of}
use Rattle.graphics.specs.Block.{opens_gw, gw_span}
use Rattle.walk_theory.specs.Language.{First, bad}
use Rattle.walk_theory.specs.Division.{Division, done, more, Reads}
use Rattle.walk_theory.specs.Labels.{Fails, faulty, beyond, later}
use Rattle.walk_theory.specs.Step.{State}
use Rattle.walk_theory.specs.Trace.{trace}
use Rattle.walk_theory.specs.Strict.{unless, Along}
use Rattle.walk_theory.proofs.StrictLaws.{strict_stands, stands_strict, strict_reads, along_trace}
use Rattle.grammar.specs.Units.{EplUnit, bytes}
use Rattle.grammar.specs.Found.{first}
use Rattle.grammar.specs.Epl.{epl}
use Rattle.grammar.proofs.FoundLaws.{reads}
use Rattle.grammar.proofs.RangesLaws.{outside_numbers}
use Rattle.grammar.proofs.FaultsLaws.{first_fault, fault_between}
use Rattle.grammar.proofs.DividedEarliestLaws.{went}
use Rattle.profile.specs.declared.rule.Held.{Held}
use Rattle.profile.specs.declared.rule.Held.TheVariants as held
use Rattle.profile.specs.declared.rule.Objection.{Objection}
use Rattle.profile.specs.declared.rule.Objection.TheVariants.{Fine, To}
use Rattle.profile.specs.Profile.{number_of, kind_of, line_objection, objection}
use Rattle.profile.specs.Asks.{asks_of, AllMeet, InProfile, FirstAmiss, Objected, amiss, behind}
use Rattle.profile.specs.Strict.{numbered, profile, strict, Own}
use Rattle.profile.proofs.AsksFieldLaws.{Judges, meets_fine}
use Rattle.profile.proofs.AsksLaws.{asked_judges, objection_asked, unit_judges}

-- nothing is objected to at the end
pub quiet : profile [] ≡ none
unfolding objection line_objection gw_span opens_gw command_of is_reference is_print
quiet = refl

pub strict_epl_reads : Reads strict
strict_epl_reads = strict_reads epl profile reads quiet

-- ---- its own numbers
own_number : (h : Held) → Own (number_of h)
own_number held.Empty = inl refl
own_number held.NoNumber = inl refl
own_number held.Beyond = inl refl
own_number held.Outside = inr refl

same_some : {m n : ℕ} → ◌≡◌ {A = Option ℕ} (some m) (some n) → m ≡ n
same_some e = cc

none≢some : {n : ℕ} → ◌≡◌ {A = Option ℕ} none (some n) → ⊥
none≢some e = let z : ◌≡◌ {A = ℕ} 0 1 = cc in omega arith

owns : (s : List ℕ) (n : ℕ) → profile s ≡ some n → Own n
owns s n e = by (objection s) e
  where
    by : (o : Objection) → numbered o ≡ some n → Own n
    by Fine e = absurd (none≢some e)
    by (To k h) e = subst Own (same_some e) (own_number h)

pub along : (s : List ℕ) (st : State LabelPosition) → Along Own (trace epl s st) (trace strict s st)
along s st = along_trace epl profile Own owns s st

-- ---- divisions
fine_of_lem : (o : Objection) → numbered o ≡ none → o ≡ Fine
fine_of_lem Fine e = refl
fine_of_lem (To k h) e = absurd (none≢some (sym e))

meets_of : (u : EplUnit) (rest : List ℕ) → strict.Stands u rest → AllMeet (asks_of u)
meets_of u rest st =
    let w = strict_stands epl profile reads u rest st in
    subst (Judges (asks_of u)) (fine_of_lem (objection (bytes u ++ rest)) w.1) (unit_judges u rest w.0)

pub strict_divides : {s : List ℕ} {us : List EplUnit} → Division strict s us → Division epl s us × InProfile us
strict_divides done = (done, tt)
strict_divides (more {u} {us} {s} {rest} e st d) =
    let w = strict_divides d in (more e (strict_stands epl profile reads u rest st).0 w.0, (meets_of u rest st, w.1))

pub divides_strict : {s : List ℕ} {us : List EplUnit} → Division epl s us → InProfile us → Division strict s us
divides_strict done m = done
divides_strict (more {u} {us} {s} {rest} e st d) m =
    more e (stands_strict epl profile reads u rest st (ap numbered (meets_fine (asks_of u) (objection (bytes u ++ rest)) m.0 (unit_judges u rest st)))) (divides_strict d m.1)

-- ---- 17 and 18
same_bad : {m n : ℕ} → ◌≡◌ {A = First EplUnit} (bad m) (bad n) → m ≡ n
same_bad e = cc

-- what stands m bytes further on is objected to, all before it being as the profile asks
record Offence (s : List ℕ) (at : ℕ) (r : LabelPosition) (n p : ℕ) : Type 0 where
  past : ℕ
  place : p ≡ at + past
  field : ℕ
  held : Held
  objected : objection (drop past s) ≡ To field held
  told : Objected s at r n p field (kind_of held)

own_small : {n : ℕ} → Own n → (n ≤ 12) ⊎ ((n ≡ 13) ⊎ (n ≡ 19)) → ⊥
own_small (inl e) (inl h) = omega arith
own_small (inl e) (inr (inl h)) = omega arith
own_small (inl e) (inr (inr h)) = omega arith
own_small (inr e) (inl h) = omega arith
own_small (inr e) (inr (inl h)) = omega arith
own_small (inr e) (inr (inr h)) = omega arith

module _ (F : Type 0) (frame : List ℕ → LabelElement → F) where
  offence : {s : List ℕ} {at : ℕ} {r : LabelPosition} {p : List F} {n q : ℕ} → Fails strict F frame s at r p n q → Own n → Offence s at r n q
  offence {s} {at} {r} (faulty {n = n} e) o = by (objection s) refl e
    where
      by : (x : Objection) → objection s ≡ x → unless (numbered x) (first s) ≡ bad n → Offence s at r n at
      by Fine q e = absurd (own_small o (inl (fault_between (first_fault s n e)).1))
      by (To k h) q e =
          let a = objection_asked s k h q in
          record {
            past = 0;
            place = omega arith;
            field = k;
            held = h;
            objected = q;
            told = amiss a.1 (subst (λ (m : ℕ). FirstAmiss a.0 m k (kind_of h)) (same_bad e) (subst (Judges a.0) q (asked_judges a.1)));
          }
  offence (beyond {u} {s} {rest} {at} {r} {p} {n} e st a) o = absurd (own_small o (inr (outside_numbers r u rest (strict_stands epl profile reads u rest st).0 n a)))
  offence (later {u} {s} {rest} {at} {r} {r'} {p} {p'} {ls} {n} {q} e st g f) o =
      let w = offence f o in
      let d = (strict_stands epl profile reads u rest st).0 in
      let k = went F frame r r' p p' ls u rest d g in
      record {
        past = length (bytes u) + w.past;
        place = omega (arith, w.place);
        field = w.field;
        held = w.held;
        objected =
            ap objection (sym (drop-drop w.past (length (bytes u)) s) ∙ ap (drop w.past) (ap (drop (length (bytes u))) e ∙ drop-append_seam (bytes u) rest)) ∙ w.objected;
        told =
            behind u rest e d k.0 (meets_of u rest st)
            (subst (λ (x : LabelPosition). Objected rest (at + length (bytes u)) x n q w.field (kind_of w.held)) k.1 w.told);
      }

  -- what stands at the place is objected to, and the field is the first that is not as the profile asks
  pub fails_objected : {s : List ℕ} {r : LabelPosition} {p : List F} {n q : ℕ} → Fails strict F frame s 0 r p n q → Own n
      → (k : ℕ) × (h : Held) × (objection (drop q s) ≡ To k h) × Objected s 0 r n q k (kind_of h)
  fails_objected {s} {q = q} f o =
      let w = offence f o in
      let at : q ≡ w.past = omega (arith, w.place) in
      (w.field, w.held, ap (λ (m : ℕ). objection (drop m s)) at ∙ w.objected, w.told)
