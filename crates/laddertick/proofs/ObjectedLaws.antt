-- What the profile objects to is one thing (`one_objected`), and where it objects the verdict is 17 or 18 and tells it
-- (`objected_told`). Assumes nothing.
use mathlib.Core.Path.{◌≡◌, refl, sym, ap, subst, ◌∙◌}
use mathlib.Core.List.{List, [], ◌∷◌, ◌++◌}
use mathlib.Core.Logic.{inl, inr}
use mathlib.Core.Option.{Option, none, some}
use Prim.Native.Nat.{ℕ, ◌+◌, ◌≤◌}
use native.Mathlib.Omega.{arith}
use lib.ListN.{length}
use Rattle.elements.specs.declared.LabelElement.{LabelElement}
use Rattle.elements.specs.declared.LabelPosition.{LabelPosition}
use Rattle.elements.specs.Given.{longest}
use Rattle.elements.specs.Walk.{fresh}
use Rattle.frame_bytes.specs.Frame.{frame_of}
use Rattle.frame_bytes.proofs.FrameLaws.{frame_local}
use Rattle.numbers.specs.Number.{field_number}
use Rattle.numbers.specs.declared.number.Number.{Number}
use Rattle.numbers.specs.declared.number.Number.TheVariants as number
use Rattle.walk_theory.specs.Language as language
use Rattle.walk_theory.specs.Language.{First, bad, unit}
use Rattle.walk_theory.specs.Division.{Division, done, more}
use Rattle.walk_theory.specs.Labels as labels_of_lem
use Rattle.walk_theory.specs.Labels.{Label, Fails}
use Rattle.walk_theory.specs.Reach.{Final, accepted, refusal, answered}
use Rattle.walk_theory.specs.Trace.{refusal_of, ending, trace, labels_in}
use Rattle.walk_theory.specs.Claims.{Local, Walks}
use Rattle.walk_theory.specs.Strict.{unless}
use Rattle.walk_theory.proofs.DivisionLaws.{bad≢unit, none≢unit, same_unit}
use Rattle.walk_theory.proofs.TraceLaws.{reach_outcome}
use Rattle.walk_theory.proofs.Whole.{whole}
use Rattle.walk_theory.proofs.StrictLaws.{strict_stands, stands_strict}
use Rattle.grammar.specs.Epl.{epl, origin, acts}
use Rattle.grammar.specs.Units.{EplUnit, bytes, Stands}
use Rattle.grammar.specs.Found.{first}
use Rattle.grammar.specs.Ranges.{AllFit, numbers_of, ref_after}
use Rattle.grammar.proofs.FoundLaws.{reads}
use Rattle.grammar.proofs.EplLaws.{inside}
use Rattle.grammar.proofs.NumberFieldLaws.{held_field}
use Rattle.grammar.proofs.RangesLaws.{outside_only, beyond_unfit}
use Rattle.grammar.proofs.DividedEarliestLaws.{went}
use Rattle.profile.specs.declared.rule.Held.{Held}
use Rattle.profile.specs.declared.rule.Held.TheVariants as held
use Rattle.profile.specs.declared.rule.Objection.{Objection}
use Rattle.profile.specs.declared.rule.Objection.TheVariants.{Fine, To}
use Rattle.profile.specs.Profile.{number_of, kind_of, objection}
use Rattle.profile.specs.Asks.{Ask, Meets, AllMeet, asks_of, InProfile, Amiss, empty, no_number, beyond, outside, FirstAmiss, here, later, Asked, Objected, amiss, behind}
use Rattle.profile.specs.Strict.{numbered, profile, strict, Own}
use Rattle.profile.proofs.AsksFieldLaws.{Judges, meets_fine}
use Rattle.profile.proofs.AsksLaws.{asked_judges, unit_judges}
use Rattle.profile.proofs.StrictLaws.{quiet, strict_epl_reads}
use Rattle.walk.specs.Steps.{state_of}
use Rattle.strict.specs.Verdict.{verdict_of, strict_end, checked_of}
use Rattle.strict.proofs.VerdictLaws.{accepted_by, objected_by_lem}

-- ---- a field that is amiss
to≢fine : {k : ℕ} {x : Held} → ◌≡◌ {A = Objection} (To k x) Fine → ⊥
to≢fine e = let z : ◌≡◌ {A = ℕ} 0 1 = cc in omega arith

-- number and kind by what the field held
abbrev number_by : Number → ℕ
number_by (number.Value z) = 18
number_by number.Empty = 17
number_by number.NoNumber = 17
number_by number.Beyond = 17

abbrev kind_by : Number → ℕ
kind_by (number.Value z) = 4
kind_by number.Empty = 1
kind_by number.NoNumber = 2
kind_by number.Beyond = 3

amiss_by : {a : Ask} {n h : ℕ} → Amiss a n h → (n ≡ number_by (field_number a.field)) × (h ≡ kind_by (field_number a.field))
amiss_by (empty e) = let k = sym (held_field e) in (ap number_by k, ap kind_by k)
amiss_by (no_number e) = let k = sym (held_field e) in (ap number_by k, ap kind_by k)
amiss_by (beyond e) = let k = sym (held_field e) in (ap number_by k, ap kind_by k)
amiss_by (outside e z) = let k = sym (held_field e) in (ap number_by k, ap kind_by k)

-- what is told of it
abbrev As : ℕ → ℕ → Type 0
As n h = (x : Held) × (number_of x ≡ n) × (kind_of x ≡ h)

amiss_as : {a : Ask} {n h : ℕ} → Amiss a n h → As n h
amiss_as (empty e) = (held.Empty, refl, refl)
amiss_as (no_number e) = (held.NoNumber, refl, refl)
amiss_as (beyond e) = (held.Beyond, refl, refl)
amiss_as (outside e z) = (held.Outside, refl, refl)

first_as : {qs : List Ask} {n k h : ℕ} → FirstAmiss qs n k h → As n h
first_as (here x) = amiss_as x
first_as (later m f) = first_as f

all_or_first : {qs : List Ask} {n k h : ℕ} → AllMeet qs → FirstAmiss qs n k h → ⊥
all_or_first {qs} {n} {k} {h} m f =
    let x = first_as f in
    to≢fine (meets_fine qs (To k x.0) m (subst (λ (i : ℕ). FirstAmiss qs i k (kind_of x.0)) (sym x.1) (subst (λ (i : ℕ). FirstAmiss qs n k i) (sym x.2) f)))

not_both : {a b : Ask} {n h : ℕ} → a ≡ b → Amiss a n h → Meets b → ⊥
not_both {a} {b} e x m = all_or_first {qs = a ∷ []} (subst Meets (sym e) m, tt) (here x)

one_first : {qs rs : List Ask} {n k h m j i : ℕ} → qs ≡ rs → FirstAmiss qs n k h → FirstAmiss rs m j i → (n ≡ m) × (k ≡ j) × (h ≡ i)
one_first e (here {a} x) (here {a = b} y) =
    let z : a ≡ b = cc in
    let p = amiss_by x in
    let q = amiss_by y in
    (p.0 ∙ ap (λ (c : Ask). number_by (field_number c.field)) z ∙ sym q.0, ap (λ (c : Ask). c.number) z, p.1 ∙ ap (λ (c : Ask). kind_by (field_number c.field)) z ∙ sym q.1)
one_first e (here {a} x) (later {a = b} m g) = absurd (let z : a ≡ b = cc in not_both z x m)
one_first e (later {a} m f) (here {a = b} y) = absurd (let z : b ≡ a = cc in not_both z y m)
one_first e (later {a} {qs} m f) (later {a = b} {qs = rs} m' g) = let z : qs ≡ rs = cc in one_first z f g

-- ---- what stands first
record Says (s : List ℕ) (n k h : ℕ) : Type 0 where
  what : Held
  is : objection s ≡ To k what
  number : number_of what ≡ n
  kind : kind_of what ≡ h

objection_is : {s : List ℕ} {qs : List Ask} {n k h : ℕ} → Asked s qs → FirstAmiss qs n k h → Says s n k h
objection_is {s} {qs} {n} {k} {h} a f = by (objection s) refl (asked_judges a)
  where
    by : (o : Objection) → objection s ≡ o → Judges qs o → Says s n k h
    by Fine e j = absurd (all_or_first j f)
    by (To i x) e j =
        let u = one_first refl f j in
        record { what = x; is = e ∙ ap (λ (m : ℕ). To m x) (sym u.1); number = sym u.0; kind = sym u.2 }

unit_fine : {s : List ℕ} (u : EplUnit) (rest : List ℕ) → s ≡ bytes u ++ rest → Stands u rest → AllMeet (asks_of u) → objection s ≡ Fine
unit_fine u rest e st m = ap objection e ∙ meets_fine (asks_of u) (objection (bytes u ++ rest)) m (unit_judges u rest st)

not_fine : {s t : List ℕ} {n k h : ℕ} → s ≡ t → Says s n k h → objection t ≡ Fine → ⊥
not_fine e x f = to≢fine (sym x.is ∙ ap objection e ∙ f)

same_first : {s t : List ℕ} (u v : EplUnit) (rest rest' : List ℕ) → s ≡ t → s ≡ bytes u ++ rest → Stands u rest → t ≡ bytes v ++ rest' → Stands v rest' → (u ≡ v) × (rest ≡ rest')
same_first u v rest rest' e p st q st' = same_unit (sym (reads.finds u rest st) ∙ ap first (sym p ∙ e ∙ q) ∙ reads.finds v rest' st')

same_to : {k j : ℕ} {x y : Held} → ◌≡◌ {A = Objection} (To k x) (To j y) → (k ≡ j) × (x ≡ y)
same_to e = (cc, cc)

-- ---- the objection is one
pub one_objected : {s t : List ℕ} {at bt : ℕ} {r q : LabelPosition} {n p k h m o j i : ℕ} → s ≡ t → at ≡ bt → r ≡ q
    → Objected s at r n p k h → Objected t bt q m o j i → (n ≡ m) × (p ≡ o) × (k ≡ j) × (h ≡ i)
one_objected e a c (amiss x f) (amiss y g) =
    let u = objection_is x f in
    let v = objection_is y g in
    let w = same_to (sym u.is ∙ ap objection e ∙ v.is) in
    (sym u.number ∙ ap number_of w.1 ∙ v.number, a, w.0, sym u.kind ∙ ap kind_of w.1 ∙ v.kind)
one_objected e a c (amiss x f) (behind v rest p st fit m y) = absurd (not_fine e (objection_is x f) (unit_fine v rest p st m))
one_objected e a c (behind u rest p st fit m x) (amiss y g) = absurd (not_fine (sym e) (objection_is y g) (unit_fine u rest p st m))
one_objected e a c (behind u rest p st fit m x) (behind v rest' p' st' fit' m' y) =
    let w = same_first u v rest rest' e p st p' st' in
    one_objected w.1 (λ z. a z + length (bytes (w.0 z))) (λ z. ref_after (c z) (w.0 z)) x y

-- ---- no division is objected to
some≢none : {n : ℕ} → ◌≡◌ {A = Option ℕ} (some n) none → ⊥
some≢none e = let z : ◌≡◌ {A = ℕ} 0 1 = cc in omega arith

pub objected_divides : {s t : List ℕ} {at : ℕ} {r : LabelPosition} {us : List EplUnit} {n p k h : ℕ} → s ≡ t → Objected s at r n p k h → Division epl t us → InProfile us → ⊥
objected_divides e (amiss x f) done i = let u = objection_is x f in some≢none (sym (ap numbered (sym (ap objection e) ∙ u.is)) ∙ quiet)
objected_divides e (amiss x f) (more {u} {us} {s} {rest} p st d) i = not_fine e (objection_is x f) (unit_fine u rest p st i.0)
objected_divides e (behind u rest p st fit m x) done i = none≢unit (sym reads.at_end ∙ ap first (sym e ∙ p) ∙ reads.finds u rest st)
objected_divides e (behind u rest p st fit m x) (more {u = v} {us} {s} {rest = rest'} p' st' d) i =
    objected_divides (same_first u v rest rest' e p st p' st').1 x d i.1

-- ---- where the strict walk fails, it fails for the objection
same_bad : {m n : ℕ} → ◌≡◌ {A = First EplUnit} (bad m) (bad n) → m ≡ n
same_bad e = cc

-- what stands first under the profile
first_bad_lem : {s t : List ℕ} {n k h : ℕ} → s ≡ t → Says s n k h → strict.first t ≡ bad n
first_bad_lem {s} {t} e x = ap (λ (o : Objection). unless (numbered o) (first t)) (sym (ap objection e) ∙ x.is) ∙ ap bad x.number

first_unit : {s t : List ℕ} (u : EplUnit) (rest : List ℕ) → s ≡ t → s ≡ bytes u ++ rest → Stands u rest → AllMeet (asks_of u) → strict.first t ≡ unit u rest
first_unit u rest e p st m = ap strict.first (sym e ∙ p) ∙ stands_strict epl profile reads u rest st (ap numbered (unit_fine u rest refl st m))

in_32 : (r : LabelPosition) (u : EplUnit) (rest : List ℕ) → Stands u rest → AllFit (numbers_of r u) → (n : ℕ) → acts r u ≡ language.outside n → ⊥
in_32 r u rest st fit n a = beyond_unfit r u (outside_only r u rest st n a) fit

module _ (F : Type 0) (frame : List ℕ → LabelElement → F) where
  one_failure : {s t : List ℕ} {at bt : ℕ} {r q : LabelPosition} {ps : List F} {n p k h m o : ℕ} → s ≡ t → r ≡ q → Objected s at r n p k h → Fails strict F frame t bt q ps m o → n ≡ m
  one_failure e c (amiss x f) (labels_of_lem.faulty g) = same_bad (sym (first_bad_lem e (objection_is x f)) ∙ g)
  one_failure e c (amiss x f) (labels_of_lem.beyond g st a) = absurd (bad≢unit (sym (first_bad_lem e (objection_is x f)) ∙ ap strict.first g ∙ st))
  one_failure e c (amiss x f) (labels_of_lem.later g st a b) = absurd (bad≢unit (sym (first_bad_lem e (objection_is x f)) ∙ ap strict.first g ∙ st))
  one_failure e c (behind u rest p st fit m x) (labels_of_lem.faulty g) = absurd (bad≢unit (sym g ∙ first_unit u rest e p st m))
  one_failure {r} {q} e c (behind u rest p st fit m x) (labels_of_lem.beyond {u = v} {rest = rest'} {n = i} g st' a) =
      let w = same_unit (sym (first_unit u rest e p st m) ∙ ap strict.first g ∙ st') in
      absurd (in_32 r u rest st fit i ((λ z. acts (c z) (w.0 z)) ∙ a))
  one_failure {r} {q} e c (behind u rest p st fit m x) (labels_of_lem.later {u = v} {rest = rest'} {r'} {p = ps} {p' = ps'} {ls} g st' a b) =
      let w = same_unit (sym (first_unit u rest e p st m) ∙ ap strict.first g ∙ st') in
      let k = went F frame q r' ps ps' ls v rest' (strict_stands epl profile reads v rest' st').0 a in
      one_failure w.1 ((λ z. ref_after (c z) (w.0 z)) ∙ sym k.1) x b

-- ---- the verdict
amiss_own : {a : Ask} {n h : ℕ} → Amiss a n h → Own n
amiss_own (empty e) = inl refl
amiss_own (no_number e) = inl refl
amiss_own (beyond e) = inl refl
amiss_own (outside e z) = inr refl

first_own : {qs : List Ask} {n k h : ℕ} → FirstAmiss qs n k h → Own n
first_own (here x) = amiss_own x
first_own (later m f) = first_own f

objected_own : {s : List ℕ} {at : ℕ} {r : LabelPosition} {n p k h : ℕ} → Objected s at r n p k h → Own n
objected_own (amiss x f) = first_own f
objected_own (behind u rest e st fit m x) = objected_own x

-- a frame looks only at the bytes of its own unit, wherever they stand
local : Local strict (List ℕ) frame_of
local r u e h pre post = frame_local pre (epl.bytes u) post e (inside r u e h)

ending_refused : {F P : Type 0} (f : Final) (ls : List (Label F P)) (n p : ℕ) → ending f ls ≡ refusal_of n p → f ≡ refusal n p
ending_refused (accepted m) ls n p e = absurd (let z : ◌≡◌ {A = ℕ} 0 1 = cc in omega arith)
ending_refused (refusal m q) ls n p e = let a : m ≡ n = cc in let b : q ≡ p = cc in λ i. refusal (a i) (b i)

module _ (s : List ℕ) (short : length s ≤ longest) where
  told_own : {n p k h : ℕ} → Objected s 0 origin n p k h → Own (checked_of s).number
  told_own {n} x = by (strict_end s) refl
    where
      w : Walks strict (List ℕ) frame_of origin s
      w = whole strict strict_epl_reads (List ℕ) frame_of local s short origin

      by : (f : Final) → strict_end s ≡ f → Own (checked_of s).number
      by (accepted m) e =
          let a = (accepted_by s short (ap (λ (f : Final). (verdict_of s f).number) e)).2 in
          absurd (objected_divides refl x a.divides.division a.clean)
      by (refusal m q) e =
          let ls = labels_in strict (List ℕ) frame_of s [] (trace strict s (state_of fresh)) in
          let out = sym (reach_outcome strict strict_epl_reads (List ℕ) frame_of w.ends) ∙ ap (λ (f : Final). ending f ls) e in
          let f = w.refused→fails m q (ending_refused w.final (answered strict (List ℕ) frame_of s [] w.answers) m q out) in
          subst Own (one_failure (List ℕ) frame_of refl refl x f ∙ sym (ap (λ (f : Final). (verdict_of s f).number) e)) (objected_own x)

  pub objected_told : (n p k h : ℕ) → Objected s 0 origin n p k h → checked_of s ≡ record { number = n; field = k; held = h; place = p }
  objected_told n p k h x =
      let o = one_objected refl refl refl (objected_by_lem s short (told_own x)) x in
      λ z. record { number = o.0 z; field = o.2 z; held = o.3 z; place = o.1 z }
