-- Laws of MaxiCode's automatic mode. The header is ASCII, so it stands in the decoded bytes just where it stands in the
-- raw ones, and what stands before it is decoded by itself (`found_place`, `found_before`); then the turns of the loops
-- (`place_step`, `postal_skip`, `postal_part`), and the mode by cases (`mode_late`). Assumes nothing.
use mathlib.Core.Path.{◌≡◌, refl, sym, ap, ◌∙◌}
use mathlib.Core.Bool.{Bool, true, false, cond, ◌&&◌, ◌||◌, and_assoc, and-true, and-false, or-true, or-false}
use mathlib.Core.List.{List, [], ◌∷◌, ◌++◌, flatten}
use Prim.Native.Nat.{ℕ, zero, suc, ◌+◌, ◌-◌, ◌<◌, ◌≤◌, min}
use native.Mathlib.Nat.{not-suc-le-zero}
use native.Mathlib.Numerals.{add-one}
use native.Mathlib.Omega.{arith}
use lib.ListN.{length, get_or, take, drop, length-append, length-take, length-drop, take-append-drop, drop_of_length-le}
use lib.Seq.{drop-cons, split_at, take-append_seam, drop-append-add, drop-nil}
use lib.Dec.{eqb, ltb}
use lib.IntN.{pos}
use borrow.Author.Tests.{eqb-true, ltb-true, ltb-false, lt-ltb, le-ltb, le-leb, lt-leb, ne_eqb}
use Rattle.text.specs.Class.{is_digit, all_digits}
use Rattle.text.specs.Fields.{same}
use Rattle.text.specs.Utf8.{within, need, low, high, run, more, whole, replacement, shown, decode, PartLen}
use Rattle.text.proofs.BoolLaws.{test, and_both, within_low}
use Rattle.text.proofs.DropSteps.{rest}
use Rattle.text.proofs.FieldsLaws.{same_length}
use Rattle.text.proofs.Utf8Laws.{low_ge, need_ascii, more_ascii, decode_ascii, decode_split}
use Rattle.text.proofs.Utf8Steps.{decode_part, decode_left}
use Rattle.barcodes_2d.specs.Maxicode.{header, header_at, header_place, postal, auto_mode}

-- every element is one of P
abbrev All : (ℕ → Type 0) → List ℕ → Type 0
All P [] = Unit
All P (b ∷ s) = P b × All P s

abbrev Ascii : ℕ → Type 0
Ascii b = b < 128

abbrev High : ℕ → Type 0
High b = 128 ≤ b

-- the part that begins with a byte that is not ASCII has none that is, raw and decoded

run_high : (lo hi n : ℕ) (s : List ℕ) → 128 ≤ lo → All High (take (run lo hi n s) s)
run_high lo hi zero s h = tt
run_high lo hi (suc n) [] h = tt
run_high lo hi (suc n) (b ∷ s) h =
    test (within lo hi b)
    (λ e. let l = within_low lo hi b e in simp e (omega arith, run_high 128 191 n s (omega arith)))
    (λ e. simp e tt)

replacement_high : All High replacement
replacement_high = (omega arith, (omega arith, (omega arith, tt)))

module _ (a : ℕ) (s : List ℕ) (h : 128 ≤ a) where
  part_high : All High (a ∷ take (more a s) s)
  part_high = (h, run_high (low a) (high a) (need a - 1) s (low_ge a))

  shown_high : All High (shown (a ∷ take (more a s) s))
  shown_high =
      test (whole (a ∷ take (more a s) s))
      (λ e. simp e part_high)
      (λ e. simp e replacement_high)

-- the header

header_ascii : All Ascii header
header_ascii = (omega arith, (omega arith, (omega arith, (omega arith, (omega arith, (omega arith, (omega arith, tt)))))))

-- an ASCII text stands at the front of the decoded bytes just where it stands at the front of the raw ones
same_decode : (h s : List ℕ) → All Ascii h → same (take (length h) (decode s)) h ≡ same (take (length h) s) h
unfolding flatten
same_decode [] s n = refl
same_decode (b ∷ h) [] n = refl
same_decode (b ∷ h) (a ∷ s) (l, n) =
    test (ltb a 128)
    (λ e. rw (decode_ascii a s (ltb-true a 128 e)) (ap (λ (x : Bool). eqb a b && x) (same_decode h s n)))
    (λ e.
    let q = ltb-false a 128 e in
    let i = ne_eqb a b (λ z. omega arith) in
    let j = ne_eqb 0xef b (λ z. omega arith) in
    ap (λ (d : List ℕ). same (take (suc (length h)) d) (b ∷ h)) (decode_part (a ∷ s) (suc (more a s)) (omega arith) refl)
    ∙ test (whole (a ∷ take (more a s) s)) (λ f. simp (f, i)) (λ f. simp (f, i, j)))

pub header_decode : (s : List ℕ) → header_at (decode s) ≡ header_at s
unfolding header_at
header_decode s = same_decode header s header_ascii

-- no header stands among bytes that are not ASCII
from_high : (w r : List ℕ) → All High w → drop (header_place (w ++ r)) (w ++ r) ≡ drop (header_place r) r
unfolding header_at header_place
from_high [] r h = refl
from_high (a ∷ w) r (p, h) = simp (ne_eqb a 0x5b (λ z. omega arith)) (from_high w r h)

-- from the header on, the decoded bytes are the raw ones decoded

abbrev FromHeader : List ℕ → Type 0
FromHeader s = drop (header_place (decode s)) (decode s) ≡ decode (drop (header_place s) s)

from_ascii : (a : ℕ) (s : List ℕ) → a < 128 → FromHeader s → FromHeader (a ∷ s)
unfolding header_place
from_ascii a s h k =
    let d = decode_ascii a s h in
    ap (λ (l : List ℕ). drop (header_place l) l) d
    ∙ simp (ap header_at (sym d) ∙ header_decode (a ∷ s)) (test (header_at (a ∷ s)) (λ e. simp e (sym d)) (λ e. simp e k))

from_other : (a : ℕ) (s : List ℕ) → 128 ≤ a → FromHeader (drop (more a s) s) → FromHeader (a ∷ s)
from_other a s h k =
    let m = more a s in
    let p = a ∷ take m s in
    ap (λ (d : List ℕ). drop (header_place d) d) (decode_part (a ∷ s) (suc m) (omega arith) refl)
    ∙ from_high (shown p) (decode (drop m s)) (shown_high a s h)
    ∙ k
    ∙ ap decode (sym (from_high p (drop m s) (part_high a s h)))
    ∙ ap (λ (l : List ℕ). decode (drop (header_place (a ∷ l)) (a ∷ l))) (take-append-drop m s)

from_after : (s : List ℕ) (k : ℕ) → FromHeader (drop k s)
unfolding header_place flatten
from_after [] zero = refl
from_after [] (suc k) = refl
from_after (a ∷ s) zero = test (ltb a 128) (λ e. from_ascii a s (ltb-true a 128 e) (from_after s 0)) (λ e. from_other a s (ltb-false a 128 e) (from_after s (more a s)))
from_after (a ∷ s) (suc k) = from_after s k

pub from_header : (s : List ℕ) → FromHeader s
from_header s = from_after s 0

-- where it stands

pub place_le : (s : List ℕ) → header_place s ≤ length s
unfolding header_place
place_le [] = omega arith
place_le (b ∷ s) = let k = place_le s in test (header_at (b ∷ s)) (λ e. simp e (omega arith)) (λ e. simp e (omega arith))

place_found : (s : List ℕ) → header_place s < length s → get_or s (header_place s) 0 ≡ 0x5b
unfolding header_at header_place
place_found [] h = absurd (not-suc-le-zero h)
place_found (b ∷ s) h =
    test (header_at (b ∷ s))
    (λ e. simp e (eqb-true b 0x5b (and_both (eqb b 0x5b) (same (take 6 s) (drop 1 header)) e).0))
    (λ e. let k : suc (header_place s) < suc (length s) = simp e at h in simp e (place_found s (omega arith)))

-- where it is found, the bytes before it are decoded by themselves
module _ (s : List ℕ) (h : header_place s < length s) where
  found_split : decode s ≡ decode (take (header_place s) s) ++ (0x5b ∷ decode (drop (suc (header_place s)) s))
  found_split =
      let p = header_place s in
      ap decode (split_at s p 0 h ∙ ap (λ (x : ℕ). take p s ++ (x ∷ drop (suc p) s)) (place_found s h))
      ∙ decode_split (take p s) 0x5b (drop (suc p) s) (omega arith)

  found_from : length (decode s) - header_place (decode s) ≡ suc (length (decode (drop (suc (header_place s)) s)))
  found_from =
      let p = header_place s in
      sym (length-drop (header_place (decode s)) (decode s))
      ∙ ap length (from_header s ∙ ap decode (drop-cons s p 0 h ∙ ap (λ (x : ℕ). x ∷ drop (suc p) s) (place_found s h)) ∙ decode_ascii 0x5b (drop (suc p) s) (omega arith))

  pub found_inside : header_place (decode s) < length (decode s)
  found_inside = omega (arith, found_from)

  pub found_place : header_place (decode s) ≡ length (decode (take (header_place s) s))
  found_place = omega (arith, found_from, ap length found_split ∙ length-append (decode (take (header_place s) s)) (0x5b ∷ decode (drop (suc (header_place s)) s)))

  pub found_before : take (header_place (decode s)) (decode s) ≡ decode (take (header_place s) s)
  found_before = rw (found_place, found_split) (take-append_seam (decode (take (header_place s) s)) (0x5b ∷ decode (drop (suc (header_place s)) s)))

pub none_found : (s : List ℕ) → length s ≤ header_place s → header_place (decode s) ≡ length (decode s)
unfolding flatten
none_found s h =
    let e = ap length (from_header s ∙ ap decode (drop_of_length-le s h)) in
    omega (arith, length-drop (header_place (decode s)) (decode s), place_le (decode s))

-- header_at

pub header_short : (s : List ℕ) → length s < 7 → header_at s ≡ false
unfolding header_at
header_short s h = same_length (take 7 s) header (λ e. let k = length-take 7 s in omega arith)

pub header_bytes : (s : List ℕ) → 7 ≤ length s
    → (eqb (get_or s 0 0) 0x5b && eqb (get_or s 1 0) 0x29 && eqb (get_or s 2 0) 0x3e && eqb (get_or s 3 0) 0x1e && eqb (get_or s 4 0) 0x30 && eqb (get_or s 5 0) 0x31 && eqb (get_or s 6 0) 0x1d) ≡ header_at s
unfolding header_at
header_bytes s h =
    let d : (i : ℕ) → i < 7 → drop i s ≡ get_or s i 0 ∷ drop (suc i) s = λ i l. drop-cons s i 0 (omega arith) in
    sym (ap header_at (d 0 (omega arith)) ∙ rw (d 1 (omega arith), d 2 (omega arith), d 3 (omega arith), d 4 (omega arith), d 5 (omega arith), d 6 (omega arith)) (simp (and_assoc, and-true)))

-- header_place, at i

pub place_step : (s : List ℕ) (i : ℕ) → i < length s → header_place (drop i s) ≡ cond (header_at (take (length s - i) (drop i s))) zero (suc (header_place (drop (i + 1) s)))
unfolding header_place
place_step s i h = rw (rest s i, add-one, drop-cons s i 0)

pub place_end : (s : List ℕ) (i : ℕ) → length s ≤ i → header_place (drop i s) ≡ 0
unfolding header_place
place_end s i h = rw (drop_of_length-le s)

-- is_postal: the bytes of d from skip on are digits, and there is one of them, or some says that one stood before d
unfoldable pub digits_from : ℕ → Bool → List ℕ → Bool
digits_from skip some d = (some || ltb skip (length d)) && all_digits (drop skip d)

ltb_add : (n a b : ℕ) → ltb (n + a) (n + b) ≡ ltb a b
ltb_add n a b =
    test (ltb a b)
    (λ e. lt-ltb (n + a) (n + b) (omega (arith, ltb-true a b e)) ∙ sym e)
    (λ e. le-ltb (n + a) (n + b) (omega (arith, ltb-false a b e)) ∙ sym e)

digits_skip : (w r : List ℕ) (some : Bool) (skip : ℕ) → length w ≤ skip → digits_from skip some (w ++ r) ≡ digits_from (skip - length w) some r
unfolding digits_from
digits_skip w r some skip h =
    let e : skip ≡ length w + (skip - length w) = omega arith in
    ap (λ (n : ℕ). digits_from n some (w ++ r)) e ∙ rw (length-append w r, ltb_add (length w) (skip - length w) (length r), drop-append-add w r (skip - length w))

digits_high : (w r : List ℕ) (k : ℕ) → All High w → k < length w → all_digits (drop k (w ++ r)) ≡ false
digits_high [] r k n h = absurd (not-suc-le-zero h)
digits_high (a ∷ w) r zero (q, n) h = simp (lt-leb a 57 (omega arith), and-false)
digits_high (a ∷ w) r (suc k) (q, n) h = digits_high w r k n (omega arith)

digits_ascii : (a : ℕ) (r : List ℕ) (some : Bool) (skip : ℕ) → skip < 1 → digits_from skip some (a ∷ r) ≡ (is_digit a && digits_from skip true r)
unfolding digits_from
digits_ascii a r some zero h = simp (lt-ltb 0 (suc (length r)) (omega arith), or-true)
digits_ascii a r some (suc k) h = absurd (omega arith)

shown_ascii : (a : ℕ) (s : List ℕ) → a < 128 → shown (a ∷ take (more a s) s) ≡ a ∷ []
shown_ascii a s h = rw (more_ascii a s h) (simp (need_ascii a h))

digits_part : (a : ℕ) (s r : List ℕ) (some : Bool) (skip : ℕ) → skip < length (shown (a ∷ take (more a s) s))
    → digits_from skip some (shown (a ∷ take (more a s) s) ++ r) ≡ (is_digit a && digits_from skip true r)
unfolding digits_from
digits_part a s r some skip =
    test (ltb a 128)
    (λ e. rw (shown_ascii a s (ltb-true a 128 e)) (digits_ascii a r some skip))
    (λ e h. let q = ltb-false a 128 e in simp (digits_high (shown (a ∷ take (more a s) s)) r skip (shown_high a s q) h, lt-leb a 57 (omega arith), and-false))

pub postal_is : (d : List ℕ) → postal d ≡ digits_from 6 false d
unfolding postal digits_from
postal_is d = refl

-- one turn: the part of k bytes at the front of t, which is decoded to m, is passed
module _ (skip : ℕ) (some : Bool) {k m : ℕ} where
  pub postal_skip : (t : List ℕ) → 0 < length t → PartLen t k → m ≡ length (shown (take k t)) → m ≤ skip
      → digits_from skip some (decode t) ≡ digits_from (skip - m) some (decode (take (length t - k) (drop k t)))
  postal_skip t h l e q =
      let u = decode (take (length t - k) (drop k t)) in
      ap (digits_from skip some) (decode_left t k h l) ∙ digits_skip (shown (take k t)) u some skip (omega arith) ∙ ap (λ (n : ℕ). digits_from (skip - n) some u) (sym e)

  pub postal_part : (t : List ℕ) → 0 < length t → PartLen t k → m ≡ length (shown (take k t)) → skip < m
      → digits_from skip some (decode t) ≡ (is_digit (get_or t 0 0) && digits_from skip true (decode (take (length t - k) (drop k t))))
  postal_part [] h l e q = absurd (not-suc-le-zero h)
  postal_part (a ∷ s) h l e q =
      let u = decode (take (length (a ∷ s) - k) (drop k (a ∷ s))) in
      let f = ap (λ (n : ℕ). shown (take n (a ∷ s))) l.is in
      ap (digits_from skip some) (decode_left (a ∷ s) k h l ∙ ap (λ (w : List ℕ). w ++ u) f) ∙ digits_part a s u some skip (let g = ap length f in omega arith)

pub postal_end : (t : List ℕ) (skip : ℕ) (some : Bool) → length t ≤ 0 → digits_from skip some (decode t) ≡ some
unfolding digits_from flatten
postal_end [] skip some h = simp (drop-nil {A = ℕ} skip, le-ltb skip 0 (omega arith), or-false, and-true)
postal_end (a ∷ t) skip some h = absurd (omega arith)

-- auto_maxicode_mode: p is the header's place in s, and n the decoded length of what stands before it, 6 at most

module _ (s : List ℕ) {p : ℕ} (e : p ≡ header_place s) where
  pub mode_none : p ≡ length s → auto_mode (decode s) ≡ pos 4
  unfolding auto_mode
  mode_none h = simp (le-ltb (header_place (decode s)) (length (decode s)) (let k = none_found s (omega arith) in omega arith))

  module _ {n : ℕ} (h : p ≡ length s → ⊥) (l : n ≡ min 6 (length (decode (take p s)))) where
    inside : header_place s < length s
    inside = omega (arith, place_le s)

    place_is : header_place (decode s) ≡ length (decode (take p s))
    place_is = found_place s inside ∙ ap (λ (i : ℕ). length (decode (take i s))) (sym e)

    pub mode_early : n < 6 → auto_mode (decode s) ≡ pos 4
    unfolding auto_mode
    mode_early k = simp (lt-leb 6 (header_place (decode s)) (omega (arith, place_is)), and-false)

    pub mode_late : 6 ≤ n → {r : Bool} → r ≡ postal (decode (take p s)) → auto_mode (decode s) ≡ cond r (pos 2) (pos 3)
    unfolding auto_mode
    mode_late k f =
        simp (lt-ltb (header_place (decode s)) (length (decode s)) (found_inside s inside), le-leb 6 (header_place (decode s)) (omega (arith, place_is)), found_before s inside, f, e)
