-- Numbers as they are written, read back: `field_decimal`; and a text that neither starts nor ends with a blank is its
-- own trim. Assumes nothing.
use mathlib.Core.Path.{◌≡◌, sym, ap, ◌∙◌, subst}
use mathlib.Core.Bool.{true, false, true≢false}
use mathlib.Core.List.{List, [], ◌∷◌, ◌++◌, append_assoc}
use mathlib.Core.Option.{Option, some}
use Prim.Native.Nat.{ℕ, suc, ◌+◌, ◌/◌, ◌%◌, ◌<◌, ◌≤◌}
use native.Mathlib.Omega.{arith}
use lib.ListN.{length}
use lib.Dec.{ltb}
use lib.IntN.{ℤ, pos, negsuc}
use lib.Signed.{mag}
use borrow.Author.Tests.{lt-ltb, ltb-true, ltb-false, le-leb, lt-leb, ne_eqb}
use Rattle.text.specs.Blank.{is_blank1, trim_end, trim}
use Rattle.text.specs.Class.{is_digit, all_digits}
use Rattle.text.proofs.BoolLaws.{test, and_both, within_low, within_true}
use Rattle.text.proofs.BlankTrimLaws.{trim_start_other, trim_end_other}
use Rattle.numbers.proofs.NumberLaws.{digits_some as some_digits}
use Rattle.numbers.specs.Number.{value_from, signed, number_spelled, number_or, field_or}
use Rattle.numbers.specs.declared.number.Number.TheVariants.{Value}
use Rattle.numbers.proofs.NumberPlainLaws.{field_digits}
use Rattle.decimals.specs.Decimal.{digits, decimal}
use Rattle.decimals.specs.Joined.{Without}
use Rattle.decimals.proofs.DecimalLaws.{digits_one, digits_more, digits_some, digits_value, digits_all, by_digits}
use Rattle.decimals.proofs.JoinedLaws.{without_nil, without_cons, without_append}

-- an ASCII byte that is no blank
pub record Plain (b : ℕ) : Type 0 where
  pub ascii : b < 128
  pub other : is_blank1 b ≡ false

pub plain : (b : ℕ) → 33 ≤ b → b < 127 → Plain b
plain b h g = record { ascii = omega arith; other = simp (le-leb 9 b (omega arith), lt-leb b 13 (omega arith), ne_eqb b 32 (λ e. omega arith)) }

-- a text whose last byte is one
pub record Ends (s : List ℕ) : Type 0 where
  pub rest : List ℕ
  pub last : ℕ
  pub is : s ≡ rest ++ (last ∷ [])
  pub plain : Plain last
  -- and no comma
  pub no_comma : last ≡ 44 → ⊥

pub ends_append : (t s : List ℕ) → Ends s → Ends (t ++ s)
ends_append t s e = record { rest = t ++ e.rest; last = e.last; is = ap (λ (l : List ℕ). t ++ l) e.is ∙ sym (append_assoc t e.rest (e.last ∷ [])); plain = e.plain; no_comma = e.no_comma }

pub trim_ends : (a : ℕ) (s : List ℕ) → Plain a → Ends s → trim (a ∷ s) ≡ a ∷ s
trim_ends a s p e =
    ap trim_end (trim_start_other a s p.ascii p.other)
    ∙ ap (λ (l : List ℕ). trim_end (a ∷ l)) e.is
    ∙ trim_end_other (a ∷ e.rest) e.last e.plain.ascii e.plain.other
    ∙ ap (λ (l : List ℕ). a ∷ l) (sym e.is)

-- the last byte of a number

pub digits_ends : (n : ℕ) → Ends (digits n)
digits_ends n =
    test (ltb n 10)
    (λ e. let h = ltb-true n 10 e in record { rest = []; last = 48 + n; is = digits_one n h; plain = plain (48 + n) (omega arith) (omega arith); no_comma = λ k. omega arith })
    (λ e.
    let h = ltb-false n 10 e in
    record { rest = digits (n / 10); last = 48 + n % 10; is = digits_more n h; plain = plain (48 + n % 10) (omega arith) (omega arith); no_comma = λ k. omega arith })

pub decimal_ends : (z : ℤ) → Ends (decimal z)
unfolding decimal
decimal_ends (pos n) = digits_ends n
decimal_ends (negsuc n) = ends_append (45 ∷ []) (digits (suc n)) (digits_ends (suc n))

-- its bytes: digits, and `-`

digits_without : (b : ℕ) → is_digit b ≡ false → (n : ℕ) → Without b (digits n)
digits_without b h n =
    by_digits (λ (n : ℕ). Without b (digits n))
    (λ n l. subst (Without b) (sym (digits_one n l)) (without_cons b (48 + n) [] (not_digit n l) (without_nil b)))
    (λ n l i.
    let m : n % 10 < 10 = omega arith in
    subst (Without b) (sym (digits_more n l)) (without_append b (digits (n / 10)) ((48 + n % 10) ∷ []) i (without_cons b (48 + n % 10) [] (not_digit (n % 10) m) (without_nil b))))
    n
  where
    not_digit : (n : ℕ) → n < 10 → 48 + n ≡ b → ⊥
    not_digit n l e = true≢false (sym (within_true 48 57 b (omega arith) (omega arith)) ∙ h)

pub decimal_without : (b : ℕ) → is_digit b ≡ false → (45 ≡ b → ⊥) → (z : ℤ) → Without b (decimal z)
unfolding decimal
decimal_without b h g (pos n) = digits_without b h n
decimal_without b h g (negsuc n) = without_cons b 45 (digits (suc n)) g (digits_without b h (suc n))

-- read back

pub field_decimal : (d z : ℤ) → mag z < 2147483648 → field_or d (decimal z) ≡ z
unfolding decimal number_spelled
field_decimal d (pos n) h = field_digits d (digits n) n (digits_some n) (digits_value n) h
field_decimal d (negsuc n) h =
    ap (λ (t : List ℕ). number_or d (number_spelled t)) (trim_ends 45 (digits (suc n)) (plain 45 (omega arith) (omega arith)) (digits_ends (suc n)))
    ∙ ap (λ (o : Option ℕ). number_or d (signed true o)) (some_digits (digits (suc n)) (digits_some (suc n)) ∙ digits_value (suc n))
    ∙ simp (lt-ltb n 2147483648 h)

-- with no sign and no blanks
spelled : (s : List ℕ) (v : ℕ) → 0 < length s → all_digits s ≡ true → value_from 0 s ≡ some v → v < 2147483648 → number_spelled s ≡ Value (pos v)
unfolding number_spelled
spelled [] v l a e h = absurd (omega arith)
spelled (x ∷ s) v l a e h =
    let k = within_low 48 57 x (and_both (is_digit x) (all_digits s) a).0 in
    simp (ne_eqb x 45 (λ e. omega arith), ne_eqb x 43 (λ e. omega arith), e, lt-ltb v 2147483648 h)

pub number_digits : (n : ℕ) → n < 2147483648 → number_spelled (digits n) ≡ Value (pos n)
number_digits n h = spelled (digits n) n (digits_some n) (digits_all n) (digits_value n) h
