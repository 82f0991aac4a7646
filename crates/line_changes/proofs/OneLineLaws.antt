-- One line changed: the two files divide alike but for it (`old_division`, `new_division`), and what the theory of one
-- unit changed says of their labels, by the next `N` or print line (`stays`, `in_label`, `at_end`, `counted`). Assumes
-- nothing.
use mathlib.Core.Path.{◌≡◌, refl, sym, ap, subst, ◌∙◌}
use mathlib.Core.List.{List, [], ◌∷◌, ◌++◌, append-nil}
use Prim.Native.Nat.{ℕ, ◌+◌}
use native.Mathlib.Omega.{arith}
use lib.ListN.{length, length-append}
use Rattle.elements.specs.declared.LabelElement.{LabelElement}
use Rattle.elements.specs.declared.LabelPosition.{LabelPosition}
use Rattle.command_letters.specs.declared.command.Command.TheVariants.{Clear, Print}
use Rattle.walk_theory.specs.Division.{Division, done, more}
use Rattle.walk_theory.specs.Labels.{Label, Divides}
use Rattle.walk_theory.specs.Normal.{each}
use Rattle.walk_theory.specs.Change as change
use Rattle.walk_theory.specs.Change.{Changed, Told, fate, yielded}
use Rattle.walk_theory.proofs.DivisionLaws.{unique}
use Rattle.walk_theory.proofs.SolidLaws.{in_front, behind_solid}
use Rattle.walk_theory.proofs.RunLaws.{goes_inj}
use Rattle.walk_theory.proofs.Change as theory
use Rattle.grammar.specs.Units.{EplUnit, bytes}
use Rattle.grammar.specs.Found.{first}
use Rattle.grammar.specs.Epl.{origin, EplPrint, EplAct, acts, epl}
use Rattle.grammar.specs.Ranges.{ref_after, InRange, Role, passes, clears, yields, prints, role_of, Does}
use Rattle.grammar.specs.Divided.{yielded_by, labels_by}
use Rattle.grammar.proofs.FoundLaws.{reads, firm}
use Rattle.grammar.proofs.DividedLabelsLaws.{labels_in_range}
use Rattle.line_changes.specs.OneLine.{Ending, unit_of, Changeable, EndsBy, Replaced, Is, Between, says_of, ref_by, pending_in, yielded_behind, at_hand, InLabel, Counted}
use Rattle.line_changes.proofs.LineLaws.{not_empty, line_alone, unit_ref, plain_unit}
use Rattle.line_changes.proofs.FateLaws.{Doing, doing, doing_append, run_by, fate_between, fate_clear, fate_print, yielded_is}

-- ---- where the line stands
-- a string that the line begins and that divides, divides into it and others
line_divides : (e : Ending) (t back : List ℕ) → Changeable t → EndsBy e t back → {x : List ℕ} {ws : List EplUnit} → x ≡ bytes (unit_of e t) ++ back → Division epl x ws
    → (behind : List EplUnit) × Division epl x (unit_of e t ∷ behind)
line_divides e t back c z i done = absurd (omega (arith, not_empty e t back z, ap length i, length-append (bytes (unit_of e t)) back))
line_divides e t back c z {x} i (more {u = v} {us} {rest = y} k st d) =
    let a = line_alone e t back c z v y (ap first (sym i ∙ k) ∙ reads.finds v y st) in
    (us, subst (λ (u : EplUnit). Division epl x (u ∷ us)) a.0 (more k st d))

module _ (s s' t t' : List ℕ) (e : Ending) (before : List EplUnit) (w : Replaced s s' t t' e before) where
  -- the files, by the units before the line
  whole_old : s ≡ each bytes before ++ (bytes (unit_of e t) ++ w.back)
  whole_old = w.old ∙ ap (λ (x : List ℕ). x ++ (bytes (unit_of e t) ++ w.back)) w.in_front

  whole_new : s' ≡ each bytes before ++ (bytes (unit_of e t') ++ w.back)
  whole_new = w.new ∙ ap (λ (x : List ℕ). x ++ (bytes (unit_of e t') ++ w.back)) w.in_front

  -- the line is one of the units of the first file
  pub old_division : {ws : List EplUnit} → Division epl s ws → (behind : List EplUnit) × Division epl s (before ++ unit_of e t ∷ behind)
  old_division d =
      let b = line_divides e t w.back w.old_line w.old_ends refl (behind_solid epl reads w.begins whole_old d).1 in
      (b.0, subst (λ (x : List ℕ). Division epl x (before ++ unit_of e t ∷ b.0)) (sym whole_old) (in_front epl w.begins b.1))

  module _ (behind : List EplUnit) (d : Division epl s (before ++ unit_of e t ∷ behind)) where
    replaced : change.Replaced epl s s' before (unit_of e t) (unit_of e t') behind
    replaced = record {
      rest = w.back;
      old = whole_old;
      new = whole_new;
      division = d;
      not_empty = not_empty e t' w.back w.new_ends;
      spelled = λ v x f. line_alone e t' w.back w.new_line w.new_ends v x f;
      plain = plain_unit e t w.old_line;
      plain' = plain_unit e t' w.new_line;
    }

    -- the other file divides into the same units but for the line
    pub new_division : (F : Type 0) (frame : List ℕ → LabelElement → F) {ws : List EplUnit} → Division epl s' ws → Division epl s' (before ++ unit_of e t' ∷ behind)
    new_division F frame d' = theory.new_divides epl F frame reads firm s s' before (unit_of e t) (unit_of e t') behind replaced d'

-- ---- the labels of both
-- how many elements a role yields
abbrev count_of : Role → ℕ
count_of passes = 0
count_of clears = 0
count_of yields = 1
count_of (prints q) = 0

module _ (F : Type 0) (frame : List ℕ → LabelElement → F) where
  yield_count : (k : Role) (r q : LabelPosition) (u : EplUnit) (a : EplAct) → Does k r q a → length (yielded_by frame u a) ≡ count_of k
  yield_count passes r q u a d = rw d
  yield_count clears r q u a d = rw d
  yield_count yields r q u a d = rw d.1
  yield_count (prints c) r q u a d = rw d.0

  three : (a b c : List F) → length (a ++ (b ++ c)) ≡ length a + (length b + length c)
  three a b c = length-append a (b ++ c) ∙ ap (λ (x : ℕ). length a + x) (length-append b c)

  module _ (s s' t t' : List ℕ) (e : Ending) (before : List EplUnit) (w : Replaced s s' t t' e before) (behind : List EplUnit) (c : Division epl s (before ++ unit_of e t ∷ behind))
      (ls ls' : List (Label F EplPrint)) (n n' : ℕ) (d : Divides epl F frame s origin ls n) (d' : Divides epl F frame s' origin ls' n') where
    abbrev at : LabelPosition
    at = ref_by origin before

    does_in : {x : List ℕ} {us : List EplUnit} {ms : List (Label F EplPrint)} {m : ℕ} → Division epl x us → Divides epl F frame x origin ms m → Doing origin us
    does_in c h = doing c origin (subst (InRange origin) (unique epl reads refl h.division c) (labels_in_range F frame h.division origin [] _ _ h.range).0)

    does : Doing origin before × Doing at (unit_of e t ∷ behind)
    does = doing_append before (unit_of e t ∷ behind) origin (does_in c d)

    does' : Doing origin before × Doing at (unit_of e t' ∷ behind)
    does' = doing_append before (unit_of e t' ∷ behind) origin (does_in (new_division s s' t t' e before w behind c F frame d'.division) d')

    behind_does : Doing at behind
    behind_does = subst (λ (r : LabelPosition). Doing r behind) (unit_ref e t w.old_line at) does.1.1

    changed : Changed epl F frame origin before (unit_of e t) (unit_of e t') behind ls ls' n n'
    changed = theory.changed epl F frame reads firm s s' before (unit_of e t) (unit_of e t') behind (replaced s s' t t' e before w behind c) origin ls ls' n n' d d'

    here : (changed.earlier ≡ labels_by frame origin [] before) × (changed.ref ≡ at) × (changed.front ≡ pending_in frame origin [] before)
    here = goes_inj (sym changed.up_to_it ∙ run_by F frame before origin [] does.0)

    mine : (u : EplUnit) → yielded epl F frame changed.ref u ≡ yielded_behind frame before u
    mine u = ap (λ (r : LabelPosition). yielded epl F frame r u) here.1 ∙ yielded_is F frame u (acts at u)

    abbrev ToldBy : change.Fate LabelPosition F EplPrint → Type 0
    ToldBy x = Told (labels_by frame origin [] before) (pending_in frame origin [] before) (yielded_behind frame before (unit_of e t)) (yielded_behind frame before (unit_of e t')) ls ls' n n' x

    told : ToldBy (fate epl F frame at [] behind)
    told = subst (λ (x : Type 0). x) (λ i. Told (here.0 i) (here.2 i) (mine (unit_of e t) i) (mine (unit_of e t') i) ls ls' n n' (fate epl F frame (here.1 i) [] behind)) changed.told

    module _ (between : List EplUnit) (m : EplUnit) (later : List EplUnit) (h : behind ≡ between ++ m ∷ later) (b : Between between) where
      parts : Doing at between × Doing (ref_by at between) (m ∷ later)
      parts = doing_append between (m ∷ later) at (subst (Doing at) h behind_does)

      up_to : fate epl F frame at [] behind ≡ fate epl F frame (ref_by at between) (pending_in frame at [] between) (m ∷ later)
      up_to = ap (fate epl F frame at []) h ∙ fate_between F frame between (m ∷ later) at [] b parts.0

      -- an `N`
      pub stays : Is Clear m → (ls ≡ ls') × (n ≡ n')
      stays i =
          let k = subst ToldBy (up_to ∙ fate_clear F frame later (ref_by at between) (pending_in frame at [] between) m parts.1.0 i) told in
          (k.labels_stay, k.count_stays)

      -- a print line
      pub in_label : Is Print m → InLabel frame before (unit_of e t) (unit_of e t') between (says_of m) ls ls' × (n ≡ n')
      in_label i =
          let k = subst ToldBy (up_to ∙ fate_print F frame later (ref_by at between) (pending_in frame at [] between) m parts.1.0 i) told in
          (record { later = k.later; old = k.old; new = k.new }, k.count_stays)

    -- neither
    pub at_end : Between behind → (ls ≡ labels_by frame origin [] before) × (ls' ≡ labels_by frame origin [] before) × (n ≡ length (at_hand frame before (unit_of e t) behind)) × (n' ≡ length (at_hand frame before (unit_of e t') behind))
    at_end b =
        let k = subst ToldBy (ap (fate epl F frame at []) (sym (append-nil behind)) ∙ fate_between F frame behind [] at [] b behind_does) told in
        (k.old, k.new, k.old_count, k.new_count)

    -- how many elements the label at hand has
    pub counted : (between : List EplUnit) → Counted frame before (unit_of e t) (unit_of e t') between
    counted between =
        let back = pending_in frame at [] between in
        let p = pending_in frame origin [] before in
        let y = yield_count (role_of (unit_of e t)) at (ref_after at (unit_of e t)) (unit_of e t) (acts at (unit_of e t)) does.1.0 in
        let y' = yield_count (role_of (unit_of e t')) at (ref_after at (unit_of e t')) (unit_of e t') (acts at (unit_of e t')) does'.1.0 in
        let l = three p (yielded_behind frame before (unit_of e t)) back in
        let l' = three p (yielded_behind frame before (unit_of e t')) back in
        record {
          stays = λ m. omega (arith, l, l', y, y', ap count_of m);
          one_more = λ m m'. omega (arith, l, l', y, y', ap count_of m, ap count_of m');
          one_less = λ m m'. omega (arith, l, l', y, y', ap count_of m, ap count_of m');
        }
