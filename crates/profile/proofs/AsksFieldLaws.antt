-- What is said of fields by their rules is what is asked of them: of one field (`judge_field`), and of several, first
-- field first (`judge_then`); and what is met is not objected to (`meets_fine`). Assumes nothing.
use mathlib.Core.Path.{◌≡◌, refl, sym, ap, subst, ◌∙◌}
use mathlib.Core.Bool.{Bool, true, false, ◌||◌, true≢false, false≢true}
use mathlib.Core.List.{List, ◌∷◌}
use mathlib.Core.Logic.{◌⊎◌, inl, inr}
use Prim.Native.Nat.{ℕ}
use native.Mathlib.Omega.{arith}
use lib.Dec.{eqb, leb}
use lib.IntN.{ℤ, pos, negsuc}
use borrow.Author.Tests.{eqb-true, leb-true, le-leb}
use Rattle.text.specs.Ascii.{letter}
use Rattle.text.proofs.BoolLaws.{test, or_cases, and_both}
use Rattle.numbers.specs.Int.{eq_z}
use Rattle.numbers.specs.Number.{field_number}
use Rattle.numbers.specs.declared.number.Number.{Number}
use Rattle.numbers.specs.declared.number.Number.TheVariants.{Value, Empty, NoNumber, Beyond}
use Rattle.grammar.specs.NumberField.{Held}
use Rattle.grammar.proofs.NumberFieldLaws.{field_held, held_field}
use Rattle.profile.specs.declared.rule.Objection.{Objection}
use Rattle.profile.specs.declared.rule.Objection.TheVariants.{Fine, To}
use Rattle.profile.specs.Profile.{number_of, kind_of, between, allowed, judged, ruled, then}
use Rattle.profile.specs.Asks.{Rule, any, rotation, font, horizontal, vertical, width, Between, Allows, Ask, ask, Meets, AllMeet, Amiss, empty, no_number, beyond, outside, FirstAmiss, here, later}

-- what an objection says of what is asked
abbrev pub Judges : List Ask → Objection → Type 0
Judges qs Fine = AllMeet qs
Judges qs (To k h) = FirstAmiss qs (number_of h) k (kind_of h)

-- of one field
abbrev pub Judges1 : Ask → Objection → Type 0
Judges1 a Fine = Meets a
Judges1 a (To k h) = (k ≡ a.number) × Amiss a (number_of h) (kind_of h)

-- "first field first"
pub judge_then : (a : Ask) (qs : List Ask) (o p : Objection) → Judges1 a o → Judges qs p → Judges (a ∷ qs) (then o p)
judge_then a qs Fine Fine m j = (m, j)
judge_then a qs Fine (To k h) m j = later m j
judge_then a qs (To k h) p m j = subst (λ (i : ℕ). FirstAmiss (a ∷ qs) (number_of h) i (kind_of h)) (sym m.0) (here m.1)

-- ---- the letters of rules
between_yes : (lo hi : ℕ) (z : ℤ) → between (pos lo) (pos hi) z ≡ true → Between lo hi z
between_yes lo hi (pos n) e = let b = and_both (leb lo n) (leb n hi) e in (leb-true lo n b.0, leb-true n hi b.1)
between_yes lo hi (negsuc n) e = absurd (false≢true e)

between_no : (lo hi : ℕ) (z : ℤ) → between (pos lo) (pos hi) z ≡ false → Between lo hi z → ⊥
between_no lo hi (pos n) e b = true≢false (sym (simp (le-leb lo n b.0, le-leb n hi b.1)) ∙ e)
between_no lo hi (negsuc n) e b = b

same_yes : (n : ℕ) (z : ℤ) → eq_z z (pos n) ≡ true → z ≡ pos n
same_yes n (pos m) e = ap pos (eqb-true m n e)
same_yes n (negsuc m) e = absurd (false≢true e)

-- a letter that is asked for a value, and its rule
pub record Letter (q : ℕ) (r : Rule) : Type 0 where
  pub asks : eqb q (letter "-") ≡ false
  pub yes : (z : ℤ) → allowed q z ≡ true → Allows r z
  pub no : (z : ℤ) → allowed q z ≡ false → Allows r z → ⊥

-- a small letter takes every value
pub any_letter : (q : ℕ) → eqb q (letter "-") ≡ false → ((z : ℤ) → allowed q z ≡ true) → Letter q any
any_letter q d t = record { asks = d; yes = λ z e. tt; no = λ z e m. true≢false (sym (t z) ∙ e) }

pub rotation_letter : Letter (letter "R") rotation
unfolding allowed
rotation_letter = record { asks = refl; yes = λ z e. between_yes 0 3 z e; no = λ z e. between_no 0 3 z e }

pub font_letter : Letter (letter "F") font
unfolding allowed
font_letter = record { asks = refl; yes = λ z e. between_yes 1 5 z e; no = λ z e. between_no 1 5 z e }

pub vertical_letter : Letter (letter "V") vertical
unfolding allowed
vertical_letter = record { asks = refl; yes = λ z e. between_yes 1 9 z e; no = λ z e. between_no 1 9 z e }

or_false : (x y : Bool) → (x || y) ≡ false → (x ≡ false) × (y ≡ false)
or_false true y e = absurd (true≢false e)
or_false false y e = (refl, e)

pub horizontal_letter : Letter (letter "H") horizontal
unfolding allowed
horizontal_letter = record { asks = refl; yes = λ z e. yes z e; no = λ z e. no z e }
  where
    yes : (z : ℤ) → (between (pos 1) (pos 6) z || eq_z z (pos 8)) ≡ true → Allows horizontal z
    yes z e = or_cases (between (pos 1) (pos 6) z) (eq_z z (pos 8)) (λ f. inl (between_yes 1 6 z f)) (λ f. inr (same_yes 8 z f)) e

    no : (z : ℤ) → (between (pos 1) (pos 6) z || eq_z z (pos 8)) ≡ false → Allows horizontal z → ⊥
    no z e (inl b) = between_no 1 6 z (or_false (between (pos 1) (pos 6) z) (eq_z z (pos 8)) e).0 b
    no z e (inr q) = true≢false (sym (ap (λ (x : ℤ). eq_z x (pos 8)) q) ∙ (or_false (between (pos 1) (pos 6) z) (eq_z z (pos 8)) e).1)

pub width_letter : Letter (letter "W") width
unfolding allowed
width_letter = record { asks = refl; yes = yes; no = no }
  where
    yes : (z : ℤ) → allowed (letter "W") z ≡ true → Allows width z
    yes (pos n) e = leb-true 1 n e
    yes (negsuc n) e = false≢true e

    no : (z : ℤ) → allowed (letter "W") z ≡ false → Allows width z → ⊥
    no (pos n) e b = true≢false (sym (le-leb 1 n b) ∙ e)
    no (negsuc n) e b = b

-- ---- a field by its rule
module _ (k q : ℕ) (r : Rule) (l : Letter q r) (f : List ℕ) where
  judge_number : (n : Number) → Held f n → Judges1 (ask k r f) (judged k q n)
  judge_number (Value z) h = test (allowed q z) (λ e. simp e (z, h, l.yes z e)) (λ e. simp e (refl, outside h (l.no z e)))
  judge_number Empty h = (refl, empty h)
  judge_number NoNumber h = (refl, no_number h)
  judge_number Beyond h = (refl, beyond h)

  pub judge_field : Judges1 (ask k r f) (ruled k q f)
  unfolding ruled
  judge_field = simp l.asks (judge_number (field_number f) (field_held f))

-- ---- what is met is not amiss
values : (y z : ℤ) → Value y ≡ Value z → y ≡ z
values y z e = cc

value_other : {A : Type 0} (z : ℤ) (n : Number) → (numbered : (n ≡ Empty) ⊎ ((n ≡ NoNumber) ⊎ (n ≡ Beyond))) → Value z ≡ n → A
value_other z n (inl e) h = absurd (let w : Value z ≡ Empty = h ∙ e in let x : ◌≡◌ {A = ℕ} 0 1 = cc in omega arith)
value_other z n (inr (inl e)) h = absurd (let w : Value z ≡ NoNumber = h ∙ e in let x : ◌≡◌ {A = ℕ} 0 1 = cc in omega arith)
value_other z n (inr (inr e)) h = absurd (let w : Value z ≡ Beyond = h ∙ e in let x : ◌≡◌ {A = ℕ} 0 1 = cc in omega arith)

not_amiss : (a : Ask) {n h : ℕ} → Meets a → Amiss a n h → ⊥
not_amiss a m (empty e) = value_other m.0 Empty (inl refl) (sym (held_field m.1) ∙ held_field e)
not_amiss a m (no_number e) = value_other m.0 NoNumber (inr (inl refl)) (sym (held_field m.1) ∙ held_field e)
not_amiss a m (beyond e) = value_other m.0 Beyond (inr (inr refl)) (sym (held_field m.1) ∙ held_field e)
not_amiss a m (outside {z} e n) = n (subst (Allows a.rule) (values m.0 z (sym (held_field m.1) ∙ held_field e)) m.2)

none_amiss : {xs : List Ask} {n k h : ℕ} → AllMeet xs → FirstAmiss xs n k h → ⊥
none_amiss m (here {a} x) = not_amiss a m.0 x
none_amiss m (later y x) = none_amiss m.1 x

pub meets_fine : (xs : List Ask) (o : Objection) → AllMeet xs → Judges xs o → o ≡ Fine
meets_fine xs Fine m j = refl
meets_fine xs (To k h) m j = absurd (none_amiss m j)
