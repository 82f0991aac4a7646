-- A template filled byte by byte: what stands for each byte, how long it is. Assumes nothing.
use mathlib.Core.Path.{◌≡◌, refl, sym, ap, ◌∙◌}
use mathlib.Core.Bool.{true, false, true≢false}
use mathlib.Core.List.{List, [], ◌∷◌, ◌++◌}
use Prim.Native.Nat.{ℕ, ◌+◌, ◌-◌, ◌*◌, ◌/◌, ◌<◌, ◌≤◌}
use native.Mathlib.Numerals.{add-one}
use native.Mathlib.Omega.{arith}
use lib.Dec.{eqb}
use lib.ListN.{length, set, get_or, drop, drop_of_length-le, length-append}
use lib.Seq.{drop-cons}
use borrow.Author.Tests.{lt-ltb, le-ltb, ne_eqb, ltb-false}
use Rattle.text.specs.Wrote.{Put}
use Rattle.text.proofs.WroteLaws.{wrote}
use Rattle.text.proofs.BoolLaws.{test}
use Rattle.text.proofs.WroteTowardLaws.{Toward, begin, room, put, finish}
use lib.IntN.{ℤ, pos, negsuc, nat_abs}
use lib.Signed.{lt_z}
use mathlib.Core.Bool.{cond}
use Rattle.numbers.specs.Int.{in32, checked, twos}
use Rattle.numbers.specs.declared.int.Checked.TheVariants.{Fits, Outside}
use Rattle.decimals.specs.Decimal.{DecimalLen, decimal}
use Rattle.decimals.proofs.PutLaws.{put_as}
use Rattle.writing_templates.specs.Fill.{field_at, lines, number_at, letter_at, letter_of, slot, SlotLen, fill, FillLen}
use Rattle.structs.specs.declared.answer.Element.{Element}

-- a letter

pub some_letter : (b : ℕ) → (b ≡ 0 → ⊥) → letter_of b ≡ b ∷ []
some_letter b h = simp (ne_eqb b 0 h)

pub letter_le : (b : ℕ) → length (letter_of b) ≤ 1
letter_le b = test (eqb b 0) (λ e. simp e (omega arith)) (λ e. simp e (omega arith))

pub put_none : (l : List ℕ) (at : ℕ) {bs : List ℕ} → bs ≡ [] → Put l l at bs at
put_none l at e = put_as e (record { wrote = record { is = refl; long = refl }; next = omega arith })

pub put_byte : (l : List ℕ) (at x : ℕ) {bs : List ℕ} → bs ≡ x ∷ [] → Put (set l at x) l at bs (at + 1)
put_byte l at x e = put_as e (record { wrote = wrote refl; next = refl })

-- the four kinds of bytes

module _ (e : Element) (d : List ℕ) (b : ℕ) where
  pub slot_byte : b < 128 → slot e d b ≡ letter_of b
  slot_byte h = simp (lt-ltb b 128 h)

  pub slot_number : 128 ≤ b → b < 148 → slot e d b ≡ decimal (number_at e (b - 128))
  slot_number l h = simp (le-ltb b 128 l, lt-ltb b 148 h)

  pub slot_letter : 148 ≤ b → b < 160 → slot e d b ≡ letter_of (letter_at e (b - 148))
  slot_letter l h = simp (le-ltb b 128 (omega arith), le-ltb b 148 l, lt-ltb b 160 h)

  pub slot_data : 160 ≤ b → slot e d b ≡ d
  slot_data l = simp (le-ltb b 128 (omega arith), le-ltb b 148 (omega arith), le-ltb b 160 l)

module _ (e : Element) (len b : ℕ) where
  pub len_byte : (r : ℕ) → b < 128 → r ≡ length (letter_of b) → SlotLen e len b r
  len_byte r h k = record { is = λ d k₀. k ∙ ap length (sym (slot_byte e d b h)); small = omega (arith, letter_le b) }

  pub len_number : (r : ℕ) → 128 ≤ b → b < 148 → DecimalLen (number_at e (b - 128)) r → SlotLen e len b r
  len_number r l h k = record { is = λ d k₀. k.is ∙ ap length (sym (slot_number e d b l h)); small = omega (arith, k.small) }

  pub len_letter : (r : ℕ) → 148 ≤ b → b < 160 → r ≡ length (letter_of (letter_at e (b - 148))) → SlotLen e len b r
  len_letter r l h k = record { is = λ d k₀. k ∙ ap length (sym (slot_letter e d b l h)); small = omega (arith, letter_le (letter_at e (b - 148))) }

  pub len_data : 160 ≤ b → SlotLen e len b len
  len_data l = record { is = λ d k₀. sym k₀ ∙ ap length (sym (slot_data e d b l)); small = omega arith }

-- ---- a template, from a place on

module _ (e : Element) (d t : List ℕ) (i : ℕ) (h : i < length t) where
  pub fill_next : fill e d (drop i t) ≡ slot e d (get_or t i 0) ++ fill e d (drop (i + 1) t)
  unfolding fill
  fill_next = rw (add-one, drop-cons t i 0)

pub fill_done : (e : Element) (d t : List ℕ) (i : ℕ) → length t ≤ i → fill e d (drop i t) ≡ []
unfolding fill
fill_done e d t i h = ap (fill e d) (drop_of_length-le t h)

-- how long it is: total of what stands before i

pub record Summed (e : Element) (len : ℕ) (t : List ℕ) (total i : ℕ) : Type 0 where
  pub within : i ≤ length t
  pub small : total ≤ i * 16777227
  pub is : (d : List ℕ) → length d ≡ len → total + length (fill e d (drop i t)) ≡ length (fill e d t)

module _ {e : Element} {len : ℕ} {t : List ℕ} where
  pub summed_begin : Summed e len t 0 0
  summed_begin = record { within = omega arith; small = omega arith; is = λ d k₀. omega arith }

  pub summed_next : {total i r : ℕ} → i < length t → len ≤ 16777216 → Summed e len t total i → SlotLen e len (get_or t i 0) r → Summed e len t (total + r) (i + 1)
  summed_next {total} {i} {r} h l s k =
      record {
        within = omega arith;
        small = omega (arith, s.small, k.small);
        is = λ d k₀.
            let f = ap length (fill_next e d t i h) ∙ length-append (slot e d (get_or t i 0)) (fill e d (drop (i + 1) t)) in
            omega (arith, s.is d k₀, k.is d k₀, f);
      }

  pub summed_end : {total i : ℕ} → length t ≤ i → length t ≤ 64 → Summed e len t total i → FillLen e len t total
  summed_end {total} {i} h l s =
      record {
        is = λ d k₀. let f = ap length (fill_done e d t i h) in omega (arith, s.is d k₀, f);
        small = omega (arith, s.small, s.within);
      }

-- filled up to i, which stands at a

pub record Filling (e : Element) (d t out₀ : List ℕ) (at : ℕ) (out : List ℕ) (a i : ℕ) : Type 0 where
  pub within : i ≤ length t
  pub toward : Toward out a (fill e d (drop i t)) out₀ at (fill e d t)

module _ {e : Element} {d t out₀ : List ℕ} {at : ℕ} where
  pub filling_begin : Filling e d t out₀ at out₀ at 0
  filling_begin = record { within = omega arith; toward = begin out₀ at (fill e d t) }

  pub filling_room : {out : List ℕ} {a i : ℕ} → i < length t → at + length (fill e d t) ≤ length out₀ → Filling e d t out₀ at out a i → a + length (slot e d (get_or t i 0)) ≤ length out
  filling_room {out} {a} {i} h l s = room s.toward (slot e d (get_or t i 0)) (fill e d (drop (i + 1) t)) l (fill_next e d t i h)

  pub filling_next : {out : List ℕ} {a i : ℕ} {out' : List ℕ} {r : ℕ} → i < length t → Filling e d t out₀ at out a i → Put out' out a (slot e d (get_or t i 0)) r → Filling e d t out₀ at out' r (i + 1)
  filling_next {out} {a} {i} {out'} {r} h s p = record { within = omega arith; toward = put s.toward (fill e d (drop (i + 1) t)) (fill_next e d t i h) p }

  pub filling_end : {out : List ℕ} {a i : ℕ} → length t ≤ i → Filling e d t out₀ at out a i → Put out out₀ at (fill e d t) a
  filling_end {out} {a} {i} h s = finish s.toward (fill_done e d t i h)

-- ---- numbers

pub far_fits_lem : (s z : ℤ) → checked s ≡ Fits z → z ≡ cond (in32 s) s (pos 0)
far_fits_lem s z h = test (in32 s) (λ e. let k : Fits s ≡ Fits z = simp e at h in let q : s ≡ z = cc in simp e (sym q)) (λ e. let k : Outside ≡ Fits z = simp e at h in let o : ◌≡◌ {A = ℕ} 0 1 = cc in absurd (omega arith))

pub far_outside : (s : ℤ) → checked s ≡ Outside → pos 0 ≡ cond (in32 s) s (pos 0)
far_outside s h = test (in32 s) (λ e. let k : Fits s ≡ Outside = simp e at h in let o : ◌≡◌ {A = ℕ} 0 1 = cc in absurd (omega arith)) (λ e. simp e)

pub row_bits : (z : ℤ) → lt_z z (pos 1) ≡ false → (twos z ≡ nat_abs z) × (0 < nat_abs z)
row_bits (pos n) h = (refl, ltb-false n 1 h)
row_bits (negsuc n) h = absurd (true≢false h)

module _ (len : ℕ) (row : ℤ) where
  pub lines_none : lt_z row (pos 1) ≡ true → pos 0 ≡ lines len row
  lines_none h = simp h

  pub lines_many : lt_z row (pos 1) ≡ false → 2147483647 < len / nat_abs row → pos 0 ≡ lines len row
  lines_many h k = simp (h, lt-ltb 2147483647 (len / nat_abs row) k)

  pub lines_some : lt_z row (pos 1) ≡ false → len / nat_abs row ≤ 2147483647 → pos (len / nat_abs row) ≡ lines len row
  lines_some h k = simp (h, le-ltb 2147483647 (len / nat_abs row) k)

pub number_field : (e : Element) (i : ℕ) → i < 16 → field_at e i ≡ number_at e i
number_field e i h = simp (lt-ltb i 16 h)

pub number_lines : (e : Element) (i : ℕ) → 16 ≤ i → (i ≡ 16 → ⊥) → (i ≡ 17 → ⊥) → lines e.data_len e.row_bytes ≡ number_at e i
number_lines e i h a b = simp (le-ltb i 16 h, ne_eqb i 16 a, ne_eqb i 17 b)

pub sums_fits : (s z : ℤ) → checked s ≡ Fits z → true ≡ in32 s
sums_fits s z h = test (in32 s) (λ e. sym e) (λ e. let k : Outside ≡ Fits z = simp e at h in let o : ◌≡◌ {A = ℕ} 0 1 = cc in absurd (omega arith))

pub sums_outside : (s : ℤ) → checked s ≡ Outside → false ≡ in32 s
sums_outside s h = test (in32 s) (λ e. let k : Fits s ≡ Outside = simp e at h in let o : ◌≡◌ {A = ℕ} 0 1 = cc in absurd (omega arith)) (λ e. sym e)
