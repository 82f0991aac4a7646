-- The code's steps over parts, in the terms that the code has (`part_step`, `decode_left`, `count_step`,
-- `write_step`). The laws are in Utf8Laws. Assumes nothing.
use mathlib.Core.Path.{◌≡◌, refl, sym, ap, ◌∙◌}
use mathlib.Core.Bool.{true, false}
use mathlib.Core.List.{List, [], ◌∷◌, ◌++◌, map, flatten}
use Prim.Native.Nat.{ℕ, zero, suc, ◌+◌, ◌-◌, ◌<◌, ◌≤◌, min}
use native.Mathlib.Numerals.{add-one}
use native.Mathlib.Omega.{arith}
use lib.ListN.{length, get_or, take, drop, length-append, length-drop}
use lib.Seq.{drop-cons, take_all, sets}
use Rattle.text.specs.Utf8.{within, run, part_len, shown, decode, PartLen}
use Rattle.text.specs.Wrote.{Wrote}
use Rattle.text.proofs.WroteLaws.{wrote, wrote_left}
use Rattle.text.proofs.Utf8Laws.{parts_cons}

-- the loop of `part_len` at place i of s: of a sequence of n bytes i stand there, and what goes on with it is in lo..hi
pub record Parted (s : List ℕ) (n lo hi i : ℕ) : Type 0 where
  pub some : 0 < i
  pub fits : i ≤ length s
  pub is : part_len s ≡ i + run lo hi (n - i) (drop i s)

run_other : (lo hi k b : ℕ) (s : List ℕ) → within lo hi b ≡ false → run lo hi k (b ∷ s) ≡ 0
run_other lo hi zero b s h = refl
run_other lo hi (suc k) b s h = simp h

module _ {s : List ℕ} {n lo hi i : ℕ} (inv : Parted s n lo hi i) where
  -- one byte more goes on with it
  pub part_step : i < min n (length s) → within lo hi (get_or s i 0) ≡ true → Parted s n 128 191 (i + 1)
  part_step q h =
      let e : n - i ≡ suc (n - (i + 1)) = omega arith in
      let r : run lo hi (n - i) (drop i s) ≡ suc (run 128 191 (n - (i + 1)) (drop (i + 1) s)) = rw (e, add-one, drop-cons s i 0 (omega arith)) (simp h) in
      record { some = omega arith; fits = omega arith; is = inv.is ∙ omega arith }

  ends : run lo hi (n - i) (drop i s) ≡ 0 → PartLen s i
  ends h = record { is = omega arith; fits = inv.fits; some = λ z. inv.some }

  -- a byte that does not go on with the sequence stands next
  pub part_other : i < length s → within lo hi (get_or s i 0) ≡ false → PartLen s i
  part_other q h = ends (ap (run lo hi (n - i)) (drop-cons s i 0 q) ∙ run_other lo hi (n - i) (get_or s i 0) (drop (suc i) s) h)

-- decode, part by part

pub decode_part : (t : List ℕ) (k : ℕ) → 0 < length t → k ≡ part_len t → decode t ≡ shown (take k t) ++ decode (drop k t)
unfolding flatten
decode_part [] k h e = absurd (omega arith)
decode_part (a ∷ t) k h e = ap (λ (l : List (List ℕ)). flatten (map shown l)) (parts_cons a t) ∙ sym (ap (λ (m : ℕ). shown (take m (a ∷ t)) ++ decode (drop m (a ∷ t))) e)

-- one turn of the loops: the part of k bytes at the front of t is passed
module _ (t : List ℕ) (k : ℕ) (h : 0 < length t) (l : PartLen t k) where
  pub left_is : take (length t - k) (drop k t) ≡ drop k t
  left_is = take_all (length t - k) (drop k t) (rw length-drop (omega arith))

  pub left_less : length (take (length t - k) (drop k t)) + k ≡ length t
  left_less = rw (left_is, length-drop k t) (let f = l.fits in omega arith)

  pub decode_left : decode t ≡ shown (take k t) ++ decode (take (length t - k) (drop k t))
  decode_left = decode_part t k h l.is ∙ ap (λ (r : List ℕ). shown (take k t) ++ decode r) (sym left_is)

  pub length_left : length (decode t) ≡ length (shown (take k t)) + length (decode (take (length t - k) (drop k t)))
  length_left = ap length decode_left ∙ length-append (shown (take k t)) (decode (take (length t - k) (drop k t)))

pub decode_none : (t : List ℕ) → length t ≤ 0 → decode t ≡ []
unfolding flatten
decode_none [] h = refl
decode_none (a ∷ t) h = absurd (omega arith)

-- the loop of `decoded_len`: n bytes were counted up to t, the end of s
pub record Counted (s : List ℕ) (most n : ℕ) (t : List ℕ) : Type 0 where
  pub fits : length t ≤ length s
  pub below : n ≤ most
  pub is : length (decode s) ≡ n + length (decode t)

-- the loop of `write_decoded`: what t, the end of s, is decoded to, stored on what is written so far, gives the end's
-- bytes
pub record Stored (s out₀ : List ℕ) (at : ℕ) (out : List ℕ) (o : ℕ) (t : List ℕ) : Type 0 where
  pub fits : length t ≤ length s
  pub room : o + length (decode t) ≡ at + length (decode s)
  pub long : length out ≡ length out₀
  pub is : sets out o (decode t) ≡ sets out₀ at (decode s)

-- a turn of either: t begins with a part, w is what it is decoded to, and r is the rest
module _ {t w r : List ℕ} {k : ℕ} (h : 0 < length t) (l : PartLen t k) (f : w ≡ shown (take k t)) (g : r ≡ drop k t) where
  split_is : decode t ≡ w ++ decode r
  split_is = rw (f, g) (decode_part t k h l.is)

  split_length : length (decode t) ≡ length w + length (decode r)
  split_length = ap length split_is ∙ length-append w (decode r)

  rest_lt : length r < length t
  rest_lt = rw (g, length-drop k t) (let y = l.fits in let z = l.some h in omega arith)

  pub count_step : {s : List ℕ} {most n m : ℕ} → m ≡ length w → Counted s most n t → m ≤ most - n → Counted s most (n + m) r
  count_step e inv q = let a = rest_lt in let c = split_length in record { fits = omega arith; below = omega arith; is = omega arith }

  pub count_most : {s : List ℕ} {most n m : ℕ} → m ≡ length w → Counted s most n t → most - n < m → most ≡ min most (length (decode s))
  count_most e inv q = let c = split_length in omega arith

  -- there is room for w where there is room for all
  pub write_room : {s out₀ out : List ℕ} {at o : ℕ} → Stored s out₀ at out o t → at + length (decode s) ≤ length out₀ → o + length w ≤ length out
  write_room inv q = let c = split_length in omega (arith, inv.room, inv.long)

  pub write_step : {s out₀ out n : List ℕ} {at o : ℕ} → Stored s out₀ at out o t → Wrote n out o w → Stored s out₀ at n (o + length w) r
  write_step {o = o} inv v =
      let a = rest_lt in let c = split_length in
      record {
        fits = omega arith;
        room = omega arith;
        long = v.long ∙ inv.long;
        is = wrote_left w (decode r) v ∙ ap (sets _ o) (sym split_is) ∙ inv.is;
      }

pub count_end : {s t : List ℕ} {most n : ℕ} → Counted s most n t → length t ≤ 0 → n ≡ min most (length (decode s))
count_end {t = t} inv h = let z = ap length (decode_none t h) in omega arith

pub write_end : {s out₀ out t : List ℕ} {at o : ℕ} → Stored s out₀ at out o t → length t ≤ 0 → Wrote out out₀ at (decode s)
write_end {out = out} {t = t} {o = o} inv h = wrote (ap (sets out o) (sym (decode_none t h)) ∙ inv.is)
