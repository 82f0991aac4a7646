-- The parameters of `b` in one pass (specs/OptionSteps.antt): a value's digits (`ran_digit`, `ran_value`), and one turn
-- of the loop over letters (`taken_step`, `taken_pass`). What the pass takes is in OptionsLastLaws, commas in
-- OptionsCommaLaws. Assumes nothing.
use mathlib.Core.Path.{◌≡◌, refl, sym, ap, ◌∙◌}
use mathlib.Core.Bool.{Bool, true, false}
use mathlib.Core.List.{List, [], ◌∷◌}
use Prim.Native.Nat.{ℕ, ◌+◌, ◌-◌, ◌*◌, ◌<◌, ◌≤◌}
use native.Mathlib.Numerals.{add-one}
use native.Mathlib.Omega.{arith}
use lib.Dec.{ltb}
use lib.ListN.{length, get_or, drop, drop_of_length-le}
use lib.Seq.{drop-cons, drop-drop}
use borrow.Author.Tests.{lt-leb, le-ltb, ltb-true, ltb-false}
use Rattle.text.proofs.BoolLaws.{test, within_high}
use Rattle.text.specs.Blank.{front}
use Rattle.text.specs.Class.{is_digit, is_letter}
use Rattle.numbers.specs.Number.{value_from}
use Rattle.barcodes_2d.specs.Options.{options_of, Setting}
use Rattle.barcodes_2d.specs.OptionSteps.{value_of, cap, held, magnitude, alone_of, ValueAt, taken, all_taken}
use Rattle.barcodes_2d.specs.declared.options.Options.{Options}
use Rattle.barcodes_2d.specs.declared.options.Value.{Value}

digit_letter : (x : ℕ) → is_digit x ≡ true → is_letter x ≡ false
digit_letter x e =
    let h = within_high 48 57 x e in
    simp (lt-leb 65 x (omega arith), lt-leb 97 x (omega arith))

cap_small : (v : ℕ) → v ≤ 2147483648 → cap v ≡ v
cap_small v h =
    test (ltb v 2147483648)
    (λ e. simp e)
    (λ e. simp e (omega (arith, ltb-false v 2147483648 e)))

cap_le : (v : ℕ) → cap v ≤ 2147483648
cap_le v = test (ltb v 2147483648) (λ e. rw e (omega (arith, ltb-true v 2147483648 e))) (λ e. rw e (omega arith))

-- a sum that has passed 2^31 is read on from 2^31
cap_digit : (acc d : ℕ) → cap (acc * 10 + d) ≡ cap (cap acc * 10 + d)
cap_digit acc d =
    test (ltb acc 2147483648)
    (λ e. simp e)
    (λ e. let h = ltb-false acc 2147483648 e in rw e (simp (le-ltb (acc * 10 + d) 2147483648 (omega arith), le-ltb (2147483648 * 10 + d) 2147483648 (omega arith))))

held_cap : (xs : List ℕ) (acc : ℕ) → held (value_from acc xs) ≡ held (value_from (cap acc) xs)
held_cap [] acc = sym (cap_small (cap acc) (cap_le acc))
held_cap (x ∷ xs) acc =
    test (is_digit x)
    (λ e. simp e (held_cap xs (acc * 10 + (x - 48)) ∙ ap (λ (n : ℕ). held (value_from n xs)) (cap_digit acc (x - 48)) ∙ sym (held_cap xs (cap acc * 10 + (x - 48)))))
    (λ e. simp e)

-- the digits from `from` on, read up to `end`, where they are worth v so far
pub record Ran (s : List ℕ) (from v end : ℕ) : Type 0 where
  pub low : from < end
  pub high : end ≤ length s
  pub small : v ≤ 2147483648
  pub number : magnitude (value_of (drop from s)) ≡ held (value_from v (front is_digit (drop end s)))
  pub size : from + length (value_of (drop from s)) ≡ end + length (front is_digit (drop end s))

front_digit : (x : ℕ) (t : List ℕ) → is_digit x ≡ true → front is_digit (x ∷ t) ≡ x ∷ front is_digit t
front_digit x t e = simp e

value_digit : (x : ℕ) (t : List ℕ) → is_digit x ≡ true → value_of (x ∷ t) ≡ x ∷ front is_digit t
value_digit x t e = simp (digit_letter x e, e)

module _ (s : List ℕ) (i : ℕ) (h : i < length s) where
  here : drop i s ≡ get_or s i 0 ∷ drop (i + 1) s
  here = rw add-one (drop-cons s i 0 h)

  module _ (e : is_digit (get_or s i 0) ≡ true) where
    pub value_digits : value_of (drop i s) ≡ get_or s i 0 ∷ front is_digit (drop (i + 1) s)
    value_digits = ap value_of here ∙ value_digit (get_or s i 0) (drop (i + 1) s) e

    pub ran_first : Ran s i (get_or s i 0 - 48) (i + 1)
    ran_first =
        let x = get_or s i 0 in
        record {
          low = omega arith;
          high = omega arith;
          small = omega (arith, within_high 48 57 x e);
          number = ap magnitude value_digits ∙ (simp e (ap (λ (n : ℕ). held (value_from n (front is_digit (drop (i + 1) s)))) (omega arith)));
          size = rw value_digits (omega arith);
        }

    pub ran_digit : (from v : ℕ) → Ran s from v i → Ran s from (cap (v * 10 + (get_or s i 0 - 48))) (i + 1)
    ran_digit from v r =
        let x = get_or s i 0 in
        let f : front is_digit (drop i s) ≡ x ∷ front is_digit (drop (i + 1) s) = ap (front is_digit) here ∙ front_digit x (drop (i + 1) s) e in
        record {
          low = omega (arith, r.low);
          high = omega arith;
          small = cap_le (v * 10 + (x - 48));
          number = r.number ∙ ap (λ (l : List ℕ). held (value_from v l)) f ∙ (simp e (held_cap (front is_digit (drop (i + 1) s)) (v * 10 + (x - 48))));
          size = r.size ∙ ap (λ (l : List ℕ). i + length l) f ∙ omega arith;
        }

  pub front_stop : is_digit (get_or s i 0) ≡ false → front is_digit (drop i s) ≡ []
  front_stop e = ap (front is_digit) here ∙ simp e

pub front_end : (s : List ℕ) (i : ℕ) → length s ≤ i → front is_digit (drop i s) ≡ []
front_end s i h = rw (drop_of_length-le s {i = i} h) refl

-- a value of one byte, and any other
alone_one : (v : List ℕ) → length v ≡ 1 → alone_of v ≡ get_or v 0 0
alone_one [] h = absurd (omega arith)
alone_one (b ∷ []) h = refl
alone_one (b ∷ c ∷ v) h = absurd (omega arith)

alone_other : (v : List ℕ) → (length v ≡ 1 → ⊥) → alone_of v ≡ 0
alone_other [] h = refl
alone_other (b ∷ []) h = absurd (h refl)
alone_other (b ∷ c ∷ v) h = refl

-- where the digits end, the value is read
module _ {s : List ℕ} {from v end : ℕ} (r : Ran s from v end) (z : front is_digit (drop end s) ≡ []) where
  ran_ends : end ≡ from + length (value_of (drop from s))
  ran_ends = sym (r.size ∙ ap (λ (l : List ℕ). end + length l) z ∙ omega arith)

  pub ran_value : (a : ℕ) → a ≡ alone_of (value_of (drop from s)) → ValueAt s from (record { number = v; alone = a; next = end })
  ran_value a e =
      record {
        number = sym (r.number ∙ ap (λ (l : List ℕ). held (value_from v l)) z ∙ cap_small v r.small);
        alone = e;
        next = ran_ends;
        fits = r.high;
      }

  pub ran_alone : from < length s → is_digit (get_or s from 0) ≡ true → end ≡ from + 1 → get_or s from 0 ≡ alone_of (value_of (drop from s))
  ran_alone h d e = sym (alone_one (value_of (drop from s)) (omega (arith, ran_ends)) ∙ ap (λ (l : List ℕ). get_or l 0 0) (value_digits s from h d))

  pub ran_more : (end ≡ from + 1 → ⊥) → 0 ≡ alone_of (value_of (drop from s))
  ran_more n = sym (alone_other (value_of (drop from s)) (λ e. n (omega (arith, ran_ends))))

-- a letter, and neither

module _ (s : List ℕ) (i : ℕ) (h : i < length s) where
  pub value_letter : is_letter (get_or s i 0) ≡ true → is_digit (get_or s i 0) ≡ false → ValueAt s i (record { number = 2147483649; alone = get_or s i 0; next = i + 1 })
  value_letter e d =
      let v : value_of (drop i s) ≡ get_or s i 0 ∷ [] = ap value_of (here s i h) ∙ simp e in
      record { number = sym (ap magnitude v ∙ simp d); alone = sym (ap alone_of v); next = sym (rw v (omega arith)); fits = omega arith }

  pub value_none : is_letter (get_or s i 0) ≡ false → is_digit (get_or s i 0) ≡ false → ValueAt s i (record { number = 2147483650; alone = 0; next = i })
  value_none e d =
      let v : value_of (drop i s) ≡ [] = ap value_of (here s i h) ∙ simp (e, d) in
      record { number = sym (ap magnitude v); alone = sym (ap alone_of v); next = sym (rw v (omega arith)); fits = omega arith }

pub value_end : (s : List ℕ) (i : ℕ) → i ≤ length s → length s ≤ i → ValueAt s i (record { number = 2147483650; alone = 0; next = i })
value_end s i l h =
    let v : value_of (drop i s) ≡ [] = ap value_of (drop_of_length-le s {i = i} h) in
    record { number = sym (ap magnitude v); alone = sym (ap alone_of v); next = sym (rw v (omega arith)); fits = l }

-- what is no letter is passed over
options_pass : (x : ℕ) (t : List ℕ) → is_letter x ≡ false → options_of (x ∷ t) ≡ options_of t
unfolding options_of
options_pass x [] e = simp e
options_pass x (y ∷ t) e = simp e

-- and so are digits
options_skip_by : (x : ℕ) (t : List ℕ) (a : Bool) → is_digit x ≡ a → options_of (drop (length (front is_digit t)) t) ≡ options_of t → options_of (drop (length (front is_digit (x ∷ t))) (x ∷ t)) ≡ options_of (x ∷ t)
options_skip_by x t true e ih = simp e (ih ∙ sym (options_pass x t (digit_letter x e)))
options_skip_by x t false e ih = simp e

options_skip : (s : List ℕ) → options_of (drop (length (front is_digit s)) s) ≡ options_of s
options_skip [] = refl
options_skip (x ∷ t) = options_skip_by x t (is_digit x) refl (options_skip t)

-- a letter, its value, and the rest behind it
options_first_by : (x y : ℕ) (t : List ℕ) (a : Bool) → is_letter y ≡ a → is_letter x ≡ true → options_of (x ∷ y ∷ t) ≡ record { letter = x; value = value_of (y ∷ t) } ∷ options_of (drop (length (value_of (y ∷ t))) (y ∷ t))
unfolding options_of
options_first_by x y t true d e = simp (d, e)
options_first_by x y t false d e = simp (d, e) (ap (λ (os : List Setting). record { letter = x; value = front is_digit (y ∷ t) } ∷ os) (sym (options_skip (y ∷ t))))

options_first : (x : ℕ) (t : List ℕ) → is_letter x ≡ true → options_of (x ∷ t) ≡ record { letter = x; value = value_of t } ∷ options_of (drop (length (value_of t)) t)
unfolding options_of
options_first x [] e = simp e
options_first x (y ∷ t) e = options_first_by x y t (is_letter y) refl e

-- one turn of the loop, at a place of s
module _ (s : List ℕ) (i : ℕ) (h : i < length s) (k : Options) where
  pub taken_pass : is_letter (get_or s i 0) ≡ false → all_taken k (options_of (drop i s)) ≡ all_taken k (options_of (drop (i + 1) s))
  taken_pass e = ap (λ (t : List ℕ). all_taken k (options_of t)) (here s i h) ∙ ap (all_taken k) (options_pass (get_or s i 0) (drop (i + 1) s) e)

  pub taken_step : (v : Value) → is_letter (get_or s i 0) ≡ true → ValueAt s (i + 1) v → all_taken k (options_of (drop i s)) ≡ all_taken (taken k (get_or s i 0) v.number v.alone) (options_of (drop v.next s))
  taken_step v e a =
      ap (λ (t : List ℕ). all_taken k (options_of t)) (here s i h)
      ∙ ap (all_taken k) (options_first (get_or s i 0) (drop (i + 1) s) e)
      ∙ rw (a.number, a.alone, a.next, drop-drop (length (value_of (drop (i + 1) s))) (i + 1) s) refl

-- at the end nothing is left
pub taken_end : (s : List ℕ) (i : ℕ) (k : Options) → length s ≤ i → all_taken k (options_of (drop i s)) ≡ k
unfolding options_of
taken_end s i k h = rw (drop_of_length-le s {i = i} h) refl
