-- Bytes side by side in one number: those that are b are marked in all at once (`word_marks`), and the zeros below the
-- lowest mark tell the first b (`mark_first`). Each law is an induction on how many bytes there are. Assumes nothing.
use mathlib.Core.Path.{◌≡◌, refl, sym, ap, ◌∙◌}
use mathlib.Core.Bool.{Bool, true, false, cond, ◌&&◌, true≢false}
use mathlib.Core.List.{List}
use mathlib.Core.Logic.{⊎_elim}
use Prim.Native.Nat.{ℕ, zero, suc, ◌+◌, ◌-◌, ◌*◌, ◌/◌, ◌%◌, ◌^◌, ◌≤◌, ◌<◌}
use native.Mathlib.Nat.{add-zero, eq-zero-or-pos}
use native.Mathlib.Omega.{arith}
use lib.Bits.{bit_and, bit_or, bit_xor, and_block, or_block, xor_block, and_le_l, and_le_r, or_lt, xor_lt, xor_self, xor_add_and, block_half, block_odd, shifted_half, shifted_even}
use lib.Count.{count_trailing_zeros, under}
use lib.Dec.{eqb}
use lib.ListN.{get_or}
use borrow.Author.Tests.{eq-eqb, ne_eqb, eqb-true}
use Rattle.text.specs.Scan.{None, First}
use Rattle.text.specs.Word.{word_at, Word, marks_at}
use Rattle.text.proofs.BoolLaws.{and_both, test}
use Rattle.text.proofs.ScanLaws.{none_empty, none_step, first_join}

-- the byte c, n times
unfoldable pub rep : ℕ → ℕ → ℕ
rep zero c = zero
rep (suc n) c = rep n c * 256 + c

-- in each of n bytes 80 where x has 0, and 0 where it has anything else
unfoldable pub zero_marks : ℕ → ℕ → ℕ
zero_marks n x = bit_xor (bit_and (bit_or (bit_and x (rep n 127) + rep n 127) x) (rep n 128)) (rep n 128)

-- 80 where a byte is 0, and 0 where it is anything else
abbrev one : ℕ → ℕ
one y = bit_xor (bit_and (bit_or (bit_and y 127 + 127) y) 128) 128

-- a test passes for each number below n
abbrev every : (ℕ → Bool) → ℕ → Bool
every f zero = true
every f (suc n) = f n && every f n

every_at : (f : ℕ → Bool) (n k : ℕ) → every f n ≡ true → k < n → f k ≡ true
every_at f zero k h l = absurd (omega arith)
every_at f (suc n) k h l =
    test (eqb k n)
    (λ e. ap f (eqb-true k n e) ∙ (and_both (f n) (every f n) h).0)
    (λ e. every_at f n k (and_both (f n) (every f n) h).1 (let p : k ≡ n → ⊥ = λ q. true≢false (sym (eq-eqb k n q) ∙ e) in omega arith))

one_is : (y : ℕ) → y < 256 → one y ≡ cond (eqb y 0) 128 0
one_is y h = eqb-true (one y) (cond (eqb y 0) 128 0) (every_at (λ y. eqb (one y) (cond (eqb y 0) 128 0)) 256 y refl h)

add_block : (p q r s : ℕ) → (p * 256 + q) + (r * 256 + s) ≡ (p + r) * 256 + (q + s)
add_block p q r s = omega arith

zero_marks_step : (n x y : ℕ) → y < 256 → zero_marks (suc n) (x * 256 + y) ≡ zero_marks n x * 256 + one y
unfolding zero_marks rep
zero_marks_step n x y h =
    let u = bit_and x (rep n 127) in
    let v = bit_and y 127 in
    let v≤ : v ≤ 127 = and_le_r y 127 in
    let c : v + 127 < 256 = omega arith in
    let o : bit_or (v + 127) y < 256 = or_lt 8 (v + 127) y c h in
    let k : bit_and (bit_or (v + 127) y) 128 < 256 = let l = and_le_r (bit_or (v + 127) y) 128 in omega arith in
    ap (λ (m : ℕ). bit_xor (bit_and (bit_or (m + (rep n 127 * 256 + 127)) (x * 256 + y)) (rep n 128 * 256 + 128)) (rep n 128 * 256 + 128))
    (and_block 8 x (rep n 127) y 127 h (omega arith))
    ∙ ap (λ (m : ℕ). bit_xor (bit_and (bit_or m (x * 256 + y)) (rep n 128 * 256 + 128)) (rep n 128 * 256 + 128)) (add_block u v (rep n 127) 127)
    ∙ ap (λ (m : ℕ). bit_xor (bit_and m (rep n 128 * 256 + 128)) (rep n 128 * 256 + 128)) (or_block 8 (u + rep n 127) x (v + 127) y c h)
    ∙ ap (λ (m : ℕ). bit_xor m (rep n 128 * 256 + 128)) (and_block 8 (bit_or (u + rep n 127) x) (rep n 128) (bit_or (v + 127) y) 128 o (omega arith))
    ∙ xor_block 8 (bit_and (bit_or (u + rep n 127) x) (rep n 128)) (rep n 128) (bit_and (bit_or (v + 127) y) 128) 128 k (omega arith)

-- nothing is left of x and b together only where they are the same
xor_zero : (x b : ℕ) → eqb (bit_xor x b) 0 ≡ eqb x b
xor_zero x b =
    test (eqb x b)
    (λ e. (rw (eqb-true x b e) (ap (λ (m : ℕ). eqb m 0) (xor_self b))) ∙ sym e)
    (λ e. ne_eqb (bit_xor x b) 0
    (λ z. let s = xor_add_and x b in let p = and_le_l x b in let q = and_le_r x b in true≢false (sym (eq-eqb x b (omega arith)) ∙ e))
    ∙ sym e)

module _ (a : List ℕ) (b : ℕ) (l : b < 256) where
  zero_marks_word : (n i : ℕ) → ((k : ℕ) → i ≤ k → k < i + n → get_or a k 0 < 256) → zero_marks n (bit_xor (word_at n a i) (rep n b)) ≡ marks_at n a b i
  unfolding word_at marks_at rep zero_marks
  zero_marks_word zero i h = refl
  zero_marks_word (suc n) i h =
      let c : get_or a i 0 < 256 = h i (omega arith) (omega arith) in
      let x : bit_xor (get_or a i 0) b < 256 = xor_lt 8 (get_or a i 0) b c l in
      ap (zero_marks (suc n)) (xor_block 8 (word_at n a (i + 1)) (rep n b) (get_or a i 0) b c l)
      ∙ zero_marks_step n (bit_xor (word_at n a (i + 1)) (rep n b)) (bit_xor (get_or a i 0) b) x
      ∙ (rw (zero_marks_word n (i + 1) (λ k p q. h k (omega arith) (omega arith)), one_is (bit_xor (get_or a i 0) b) x, xor_zero (get_or a i 0) b) refl)

-- the marks of eight bytes, where b stands eight times by one product
pub word_marks : {a : List ℕ} {b i w v : ℕ} → Word 8 a i w → v ≡ b → v < 256 → zero_marks 8 (bit_xor w (v * 0x0101010101010101)) ≡ marks_at 8 a b i
unfolding rep
word_marks {a} {b} {i} {w} {v} h e l =
    let r : v * 0x0101010101010101 ≡ rep 8 b = omega arith in
    ap (λ (x : ℕ). zero_marks 8 (bit_xor w x)) r ∙ ap (λ (x : ℕ). zero_marks 8 (bit_xor x (rep 8 b))) h.is ∙ zero_marks_word a b (omega arith) 8 i h.bytes

-- each from i up to j is a byte
abbrev Bytes : List ℕ → ℕ → ℕ → Type 0
Bytes a i j = (k : ℕ) → i ≤ k → k < j → get_or a k 0 < 256

bytes_join : (a : List ℕ) (i m j : ℕ) → Bytes a i (i + m) → Bytes a (i + m) j → Bytes a i j
bytes_join a i m j f g k p q = ⊎_elim (λ z. g k (omega arith) q) (λ z. f k p (omega arith)) (eq-zero-or-pos (i + m - k))

-- a word from its halves
module _ {a : List ℕ} {i r : ℕ} where
  pub word_one : r ≡ get_or a i 0 → r < 256 → Word 1 a i r
  unfolding word_at
  word_one e h = record { is = omega arith; bytes = λ k p q. let s : k ≡ i = omega arith in rw s (omega arith) }

  module _ {x y : ℕ} where
    pub word_two : Word 1 a (i + 1) x → Word 1 a i y → r ≡ x * 256 + y → Word 2 a i r
    unfolding word_at
    word_two u v e = record { is = let p = u.is in let q = v.is in omega arith; bytes = bytes_join a i 1 (i + 2) v.bytes (λ k p q. u.bytes k p (omega arith)) }

    pub word_four : Word 2 a (i + 2) x → Word 2 a i y → r ≡ x * 65536 + y → Word 4 a i r
    unfolding word_at
    word_four u v e =
        let s : i + 2 ≡ i + 1 + 1 = omega arith in
        record { is = let p = rw s at u.is in let q = v.is in omega arith; bytes = bytes_join a i 2 (i + 4) v.bytes (λ k p q. u.bytes k p (omega arith)) }

    pub word_eight : Word 4 a (i + 4) x → Word 4 a i y → r ≡ x * 4294967296 + y → Word 8 a i r
    unfolding word_at
    word_eight u v e =
        let s : i + 4 ≡ i + 1 + 1 + 1 + 1 = omega arith in
        record { is = let p = rw s at u.is in let q = v.is in omega arith; bytes = bytes_join a i 4 (i + 8) v.bytes (λ k p q. u.bytes k p (omega arith)) }

-- the first b of the n bytes from i on, counted from there, or n
unfoldable lane : ℕ → List ℕ → ℕ → ℕ → ℕ
lane zero a b i = zero
lane (suc n) a b i = cond (eqb (get_or a i 0) b) 0 (suc (lane n a b (i + 1)))

-- j digits more
abbrev up : ℕ → ℕ → ℕ
up zero k = k
up (suc j) k = suc (up j k)

-- eight a byte
unfoldable digits : ℕ → ℕ
digits zero = zero
digits (suc n) = up 8 (digits n)

-- the digits of r, which stand below those of m, one at a time
zeros_step : (k m j r : ℕ) → count_trailing_zeros (suc k) (m * 2 ^ suc j + r) ≡ under (r % 2) (count_trailing_zeros k (m * 2 ^ j + r / 2))
unfolding count_trailing_zeros
zeros_step k m j r = rw (block_odd m j r, block_half m j r) refl

zeros_low : (j k m : ℕ) → count_trailing_zeros (up j k) (m * 2 ^ j + 0) ≡ up j (count_trailing_zeros k m)
zeros_low zero k m = ap (count_trailing_zeros k) (let e : m * 1 + 0 ≡ m = omega arith in e)
zeros_low (suc j) k m = zeros_step (up j k) m j 0 ∙ ap suc (zeros_low j k m)

zeros_mark : (j k m : ℕ) → count_trailing_zeros (up (suc j) k) (m * 2 ^ suc j + 1 * 2 ^ j) ≡ j
zeros_mark zero k m = zeros_step k m 0 1
zeros_mark (suc j) k m =
    zeros_step (up (suc j) k) m (suc j) (1 * 2 ^ suc j)
    ∙ (rw (shifted_even 1 j, shifted_half 1 j) (ap suc (zeros_mark j k m)))

eight_up : (k : ℕ) → up 8 k / 8 ≡ suc (k / 8)
eight_up k = omega arith

-- an eighth of the zeros below the lowest mark: its place
module _ (a : List ℕ) (b : ℕ) where
  zeros_at : (n i : ℕ) (t : Bool) → count_trailing_zeros (digits n) (marks_at n a b (i + 1)) / 8 ≡ lane n a b (i + 1)
      → count_trailing_zeros (digits (suc n)) (marks_at n a b (i + 1) * 256 + cond t 128 0) / 8 ≡ cond t 0 (suc (lane n a b (i + 1)))
  unfolding digits
  zeros_at n i true h = ap (λ (z : ℕ). z / 8) (zeros_mark 7 (digits n) (marks_at n a b (i + 1)))
  zeros_at n i false h =
      ap (λ (z : ℕ). z / 8) (zeros_low 8 (digits n) (marks_at n a b (i + 1))) ∙ eight_up (count_trailing_zeros (digits n) (marks_at n a b (i + 1))) ∙ ap suc h

  zeros_lane : (n i : ℕ) → count_trailing_zeros (digits n) (marks_at n a b i) / 8 ≡ lane n a b i
  unfolding digits marks_at lane count_trailing_zeros
  zeros_lane zero i = refl
  zeros_lane (suc n) i = zeros_at n i (eqb (get_or a i 0) b) (zeros_lane n (i + 1))

  -- no mark, no b; and a mark, one of the n
  no_mark : (n i : ℕ) → marks_at n a b i ≡ 0 → lane n a b i ≡ n
  unfolding marks_at lane
  no_mark zero i h = refl
  no_mark (suc n) i h = go (eqb (get_or a i 0) b) (no_mark n (i + 1)) h
    where
      go : (t : Bool) → (marks_at n a b (i + 1) ≡ 0 → lane n a b (i + 1) ≡ n) → marks_at n a b (i + 1) * 256 + cond t 128 0 ≡ 0 → cond t 0 (suc (lane n a b (i + 1))) ≡ suc n
      go true r e = absurd (omega arith)
      go false r e = ap suc (r (omega arith))

  some_mark : (n i : ℕ) → (marks_at n a b i ≡ 0 → ⊥) → lane n a b i < n
  unfolding marks_at lane
  some_mark zero i h = absurd (h refl)
  some_mark (suc n) i h = go (eqb (get_or a i 0) b) (some_mark n (i + 1)) h
    where
      go : (t : Bool) → ((marks_at n a b (i + 1) ≡ 0 → ⊥) → lane n a b (i + 1) < n) → (marks_at n a b (i + 1) * 256 + cond t 128 0 ≡ 0 → ⊥) → cond t 0 (suc (lane n a b (i + 1))) < suc n
      go true r e = omega arith
      go false r e = let l = r (λ z. e (omega arith)) in omega arith

  later : (i k : ℕ) → i + 1 + k ≡ i + suc k
  later i k = omega arith

  lane_first : (n i : ℕ) → First a b i (i + n) (i + lane n a b i)
  unfolding lane
  lane_first zero i = record { low = omega arith; high = omega arith; before = none_empty (omega arith); found = λ h. absurd (omega arith) }
  lane_first (suc n) i =
      test (eqb (get_or a i 0) b)
      (λ e. rw e (record { low = omega arith; high = omega arith; before = none_empty (omega arith); found = λ h. rw (add-zero i) (eqb-true (get_or a i 0) b e) }))
      (λ e. rw e (first_join {i = i + 1} (omega arith) (none_step i (none_empty (omega arith)) (λ p. true≢false (sym (eq-eqb (get_or a i 0) b p) ∙ e)) refl)
      (rw (later i n, later i (lane n a b (i + 1))) at (lane_first n (i + 1)))))

-- what eight marks tell: the place of the first b, or that there is none
module _ (a : List ℕ) (b i : ℕ) {m : ℕ} (h : m ≡ marks_at 8 a b i) where
  place : count_trailing_zeros 64 m / 8 ≡ lane 8 a b i
  unfolding digits
  place = ap (λ (x : ℕ). count_trailing_zeros 64 x / 8) h ∙ zeros_lane a b 8 i

  pub mark_near : (m ≡ 0 → ⊥) → count_trailing_zeros 64 m / 8 < 8
  mark_near n = rw place (some_mark a b 8 i (λ e. n (h ∙ e)))

  pub mark_first : First a b i (i + 8) (i + count_trailing_zeros 64 m / 8)
  mark_first = rw place (lane_first a b 8 i)

  pub mark_none : m ≡ 0 → None a b i (i + 8)
  mark_none e = rw (no_mark a b 8 i (sym h ∙ e)) at (lane_first a b 8 i).before
