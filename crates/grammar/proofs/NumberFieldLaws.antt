-- `field_number` is what a number field held (`fields_held`), and `field_or` its value (`number_fields`). Assumes
-- nothing.
use mathlib.Core.Path.{◌≡◌, refl, sym, ap, subst, ◌∙◌}
use mathlib.Core.Bool.{Bool, true, false, cond, true≢false}
use mathlib.Core.List.{List, [], ◌∷◌}
use mathlib.Core.Logic.{◌↔◌, ◌⊎◌, inl, inr}
use mathlib.Core.Option.{none, some}
use Prim.Native.Nat.{ℕ, ◌+◌, ◌-◌, ◌*◌}
use native.Mathlib.Omega.{arith}
use lib.Dec.{eqb}
use lib.IntN.{ℤ, pos, neg_ℤ}
use borrow.Author.Tests.{eqb-true, ne_eqb}
use Rattle.text.specs.Blank.{trim}
use Rattle.text.specs.Class.{is_digit, all_digits}
use Rattle.text.proofs.BoolLaws.{test}
use Rattle.numbers.specs.declared.number.Number.{Number}
use Rattle.numbers.specs.declared.number.Number.TheVariants.{Value, Empty, NoNumber, Beyond}
use Rattle.numbers.specs.Int.{in32}
use Rattle.numbers.specs.Number.{value_from, digits_of, ranged, signed, number_spelled, field_number, number_or, field_or}
use Rattle.grammar.specs.Spelled.{Digits}
use Rattle.grammar.specs.NumberField.{decimal, Writes, unsigned, plus, minus, Held, a_value, empty, no_number, beyond, NumberField, given, default}
use Rattle.grammar.specs.Ranges.{Signed32}
use Rattle.grammar.proofs.SpelledLaws.{digit_true, true_digits}
use Rattle.grammar.proofs.RangesLaws.{fit, unfit}

-- ---- digits
value_is : (n : ℕ) (s : List ℕ) → Digits s → value_from n s ≡ some (decimal n s)
value_is n [] h = refl
value_is n (b ∷ s) h = rw (digit_true b h.0) (value_is (n * 10 + (b - 48)) s h.1)

value_none : (n : ℕ) (s : List ℕ) → all_digits s ≡ false → value_from n s ≡ none
value_none n [] h = absurd (true≢false h)
value_none n (b ∷ s) h = test (is_digit b) (λ e. rw e (value_none (n * 10 + (b - 48)) s (simp e at h))) (λ e. rw e)

-- ---- what a text writes
-- a number with this sign, or none
abbrev Says : Bool → List ℕ → (ℤ → Type 0) → Type 0
Says neg s W = ((z : ℤ) × W z × (signed neg (digits_of s) ≡ ranged z)) ⊎ (signed neg (digits_of s) ≡ NoNumber)

says : (neg : Bool) (s : List ℕ) (W : ℤ → Type 0) → ((b : ℕ) (t : List ℕ) → s ≡ b ∷ t → Digits (b ∷ t) → W (cond neg (neg_ℤ (pos (decimal 0 (b ∷ t)))) (pos (decimal 0 (b ∷ t))))) → Says neg s W
says neg [] W w = inr refl
says neg (b ∷ t) W w =
    test (all_digits (b ∷ t))
    (λ e. let d = true_digits (b ∷ t) e in inl (_, w b t refl d, ap (signed neg) (value_is 0 (b ∷ t) d)))
    (λ e. inr (ap (signed neg) (value_none 0 (b ∷ t) e)))

-- a number, nothing, or no number
abbrev Told : List ℕ → Type 0
Told t = ((z : ℤ) × Writes t z × (number_spelled t ≡ ranged z)) ⊎ ((t ≡ []) ⊎ ((t ≡ [] → ⊥) × (number_spelled t ≡ NoNumber)))

minus_as : (s : List ℕ) (b : ℕ) (t : List ℕ) → s ≡ b ∷ t → Digits (b ∷ t) → Writes (45 ∷ s) (neg_ℤ (pos (decimal 0 (b ∷ t))))
minus_as s b t e d = subst (λ (x : List ℕ). Writes (45 ∷ x) (neg_ℤ (pos (decimal 0 (b ∷ t))))) (sym e) (minus d)

plus_as : (s : List ℕ) (b : ℕ) (t : List ℕ) → s ≡ b ∷ t → Digits (b ∷ t) → Writes (43 ∷ s) (pos (decimal 0 (b ∷ t)))
plus_as s b t e d = subst (λ (x : List ℕ). Writes (43 ∷ x) (pos (decimal 0 (b ∷ t)))) (sym e) (plus d)

unsigned_as : (s : List ℕ) (b : ℕ) (t : List ℕ) → s ≡ b ∷ t → Digits (b ∷ t) → Writes s (pos (decimal 0 (b ∷ t)))
unsigned_as s b t e d = subst (λ (x : List ℕ). Writes x (pos (decimal 0 (b ∷ t)))) (sym e) (unsigned d)

some_told : (b : ℕ) (s : List ℕ) → ((z : ℤ) × Writes (b ∷ s) z × (number_spelled (b ∷ s) ≡ ranged z)) ⊎ (number_spelled (b ∷ s) ≡ NoNumber)
unfolding number_spelled
some_told b s =
    test (eqb b 45)
    (λ e. rw (eqb-true b 45 e) (says true s (Writes (45 ∷ s)) (minus_as s)))
    (λ m. test (eqb b 43)
    (λ e. rw (eqb-true b 43 e) (says false s (Writes (43 ∷ s)) (plus_as s)))
    (λ p. rw (m, p) (says false (b ∷ s) (Writes (b ∷ s)) (unsigned_as (b ∷ s)))))

told : (t : List ℕ) → Told t
told [] = inr (inl refl)
told (b ∷ s) = by (some_told b s)
  where
    by : ((z : ℤ) × Writes (b ∷ s) z × (number_spelled (b ∷ s) ≡ ranged z)) ⊎ (number_spelled (b ∷ s) ≡ NoNumber) → Told (b ∷ s)
    by (inl h) = inl h
    by (inr e) = inr (inr ((λ n. let z : ◌≡◌ {A = ℕ} 0 1 = cc in omega arith), e))

-- what is written is spelled
spelled_as : {t : List ℕ} {z : ℤ} → Writes t z → number_spelled t ≡ ranged z
unfolding number_spelled
spelled_as (unsigned {b} {s} d) = simp (ne_eqb b 45 (λ e. omega (arith, d.0)), ne_eqb b 43 (λ e. omega (arith, d.0)), value_is 0 (b ∷ s) d)
spelled_as (plus {b} {s} d) = ap (signed false) (value_is 0 (b ∷ s) d)
spelled_as (minus {b} {s} d) = ap (signed true) (value_is 0 (b ∷ s) d)

-- ---- a field
in_32 : (z : ℤ) → Signed32 z → in32 z ≡ true
in_32 z h = test (in32 z) (λ e. e) (λ e. absurd (unfit z e h))

not_32 : (z : ℤ) → (Signed32 z → ⊥) → in32 z ≡ false
not_32 z h = test (in32 z) (λ e. absurd (h (fit z e))) (λ e. e)

-- a number is written
abbrev has_form : Number → Bool
has_form (Value z) = true
has_form Empty = false
has_form NoNumber = false
has_form Beyond = true

has_form_lem : (z : ℤ) → has_form (ranged z) ≡ true
has_form_lem z = test (in32 z) (λ e. simp e) (λ e. simp e)

none_written : {t : List ℕ} → has_form (number_spelled t) ≡ false → (z : ℤ) → Writes t z → ⊥
none_written e z w = true≢false (sym (has_form_lem z) ∙ sym (ap has_form (spelled_as w)) ∙ e)

pub field_held : (f : List ℕ) → Held f (field_number f)
unfolding number_spelled
field_held f = by (told (trim f))
  where
    by : Told (trim f) → Held f (field_number f)
    by (inl (z, w, s)) =
        test (in32 z)
        (λ e. subst (Held f) (sym (s ∙ (simp e))) (a_value w (fit z e)))
        (λ e. subst (Held f) (sym (s ∙ (simp e))) (beyond w (unfit z e)))
    by (inr (inl e)) = subst (Held f) (sym (ap number_spelled e)) (empty e)
    by (inr (inr (n, e))) = subst (Held f) (sym e) (no_number n (none_written (ap has_form e)))

pub held_field : {f : List ℕ} {n : Number} → Held f n → field_number f ≡ n
unfolding number_spelled
held_field (a_value {z} w h) = spelled_as w ∙ (simp (in_32 z h))
held_field (empty e) = ap number_spelled e
held_field {f} (no_number n h) = by (told (trim f))
  where
    by : Told (trim f) → field_number f ≡ NoNumber
    by (inl (z, w, s)) = absurd (h z w)
    by (inr (inl e)) = absurd (n e)
    by (inr (inr (m, e))) = e
held_field (beyond {z} w h) = spelled_as w ∙ (simp (not_32 z h))

pub fields_held : (f : List ℕ) (n : Number) → (field_number f ≡ n) ↔ Held f n
fields_held f n = ((λ e. subst (Held f) e (field_held f)), held_field)

-- ---- its value
abbrev is_value : Number → Bool
is_value (Value z) = true
is_value Empty = false
is_value NoNumber = false
is_value Beyond = false

-- a field that held no value writes none that fits
none_fits : (f : List ℕ) → is_value (field_number f) ≡ false → (z : ℤ) → Writes (trim f) z → Signed32 z → ⊥
none_fits f e z w h = true≢false (sym (ap is_value (held_field {f = f} (a_value w h))) ∙ e)

pub field_numbered : (d : ℤ) (f : List ℕ) → NumberField d f (field_or d f)
field_numbered d f = by (field_number f) refl (field_held f)
  where
    by : (n : Number) → field_number f ≡ n → Held f n → NumberField d f (number_or d n)
    by (Value z) e (a_value w h) = given w h
    by Empty e h = default (none_fits f (ap is_value e))
    by NoNumber e h = default (none_fits f (ap is_value e))
    by Beyond e h = default (none_fits f (ap is_value e))

pub numbered_field : {d : ℤ} {f : List ℕ} {z : ℤ} → NumberField d f z → field_or d f ≡ z
numbered_field {d} {f} (given w h) = ap (number_or d) (held_field {f = f} (a_value w h))
numbered_field {d} {f} (default n) = by (field_numbered d f)
  where
    by : {z : ℤ} → NumberField d f z → z ≡ d
    by (given {z} w h) = absurd (n z w h)
    by (default m) = refl

pub number_fields : (d : ℤ) (f : List ℕ) (z : ℤ) → (field_or d f ≡ z) ↔ NumberField d f z
number_fields d f z = ((λ e. subst (NumberField d f) e (field_numbered d f)), numbered_field)
