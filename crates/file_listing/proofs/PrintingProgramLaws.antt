-- A program whose first buffer holds one byte more than an input may have, and whose second has `Room` for all that is
-- due, prints what 01 says of standard input, however long that is (`shows`). One call is in PrintingLaws. Assumes
-- nothing.
use mathlib.Core.Path.{◌≡◌, refl, sym, ap, ◌∙◌}
use mathlib.Core.Bool.{Bool, true, false}
use mathlib.Core.List.{List}
use Prim.Native.Nat.{ℕ, ◌*◌, ◌+◌, ◌≤◌}
use native.Mathlib.Omega.{arith}
use lib.Dec.{ltb}
use lib.ListN.{length, take, drop, length-take}
use lib.Seq.{sets, sets-eq, length-sets, take_all, length-take-le, take-append_seam}
use borrow.Author.Tests.{ltb-true, ltb-false, le-ltb}
use Rattle.text.specs.Wrote.{Put}
use Rattle.text.proofs.WroteLaws.{wrote}
use Rattle.frame_bytes.specs.Frame.{refusal_frame}
use Rattle.frame_bytes.proofs.HexLaws.{length_line, length_be32}
use Rattle.elements.specs.Given.{Due, text, denied, fitting}
use Rattle.walk_theory.specs.Trace.{listed, refusal_of}
use Rattle.elements.proofs.GivenLaws.{within_long, within_short}
use Rattle.file_listing.specs.Listing.{FramedLabel, FramedOutcome, listing_of, outcome_of, listing_due, due_of}
use Rattle.file_listing.specs.Printing.{refusal_by, shown_of, shown_by, printed, Took, shown_for, Shows}
use Rattle.file_listing.proofs.ListingRoomLaws.{length_listing_le}

-- what was written at the start of a buffer stands there
put_front : {n l bs : List ℕ} {r : ℕ} → length bs ≤ length l → Put n l 0 bs r → take r n ≡ bs
put_front {n} {l} {bs} {r} h w =
    let k : r ≡ length bs = omega (arith, w.next) in
    rw (k, w.wrote.is, sets-eq bs l 0 (omega arith)) (take-append_seam bs (drop (0 + length bs) l))

-- a buffer l into which standard input s was read, as far as it goes, whatever the two are
pub took : (l s : List ℕ) → Took (sets l 0 (take (length l) s)) (length (take (length l) s)) s
took l s =
    let bs = take (length l) s in
    put_front {l = l} {bs = bs} {r = length bs} (simp length-take (omega arith)) (record { wrote = wrote refl; next = omega arith })
    ∙ ap (λ (k : ℕ). take k s) (sym (length-sets l 0 bs))

-- room for what is due, where that is a text
abbrev pub Room : ℕ → Due → Type 0
Room m d = (t : List ℕ) → d ≡ text t → length t ≤ m

-- by way of a buffer of m bytes, which has room for a refusal
module _ (m : ℕ) (big : 13 ≤ m) where
  whole : (d : Due) → Room m d → shown_by m (fitting d m) ≡ shown_of d
  unfolding refusal_by
  whole (text t) h = simp (le-ltb m (length t) (h t refl))
  whole (denied k p) h = simp (le-ltb m 13 big)

  inside : (d : Due) → Room m d → length (shown_of d) ≤ m
  inside (text t) h = h t refl
  inside (denied k p) h = omega (arith, length_line (refusal_frame k p), length_be32 p)

no_text : (m k p : ℕ) → Room m (denied k p)
no_text m k p t e = let z : ◌≡◌ {A = ℕ} 0 1 = cc in absurd (omega arith)

-- the buffers l and o, and what is due for an input
module _ (due : List ℕ → Due) (l o : List ℕ) (one_more : length l ≡ 65537) (big : 13 ≤ length o) (room : (s : List ℕ) → length s ≤ 65536 → Room (length o) (due s)) where
  -- standard input s: what was read of it tells as much
  module _ (s t : List ℕ) (e : t ≡ take (length l) s) where
    told : (b : Bool) → ltb 65536 (length s) ≡ b → (printed t (due t) (length o) ≡ shown_for s (due s)) × (length (shown_for s (due s)) ≤ length o)
    told true q =
        let long = ltb-true 65536 (length s) q in
        let read : length t ≡ 65537 = ap length e ∙ length-take-le (length l) s (omega arith) ∙ one_more in
        let none = no_text (length o) 14 0 in
        rw (within_long 65536 t (due t) (omega arith), within_long 65536 s (due s) long) (whole (length o) big (denied 14 0) none, inside (length o) big (denied 14 0) none)
    told false q =
        let short = ltb-false 65536 (length s) q in
        let all : t ≡ s = e ∙ take_all (length l) s (omega arith) in
        rw (all, within_short 65536 s (due s) short) (whole (length o) big (due s) (room s short), inside (length o) big (due s) (room s short))

  pub shows : (n : ℕ) {p : List ℕ} {r : ℕ} → Put p o 0 (printed (take n l) (due (take n l)) (length o)) r → Shows due l n p r
  shows n w s e = let k = told s (take n l) e (ltb 65536 (length s)) refl in put_front k.1 (rw k.0 at w)

-- 16 bytes for each byte that an input may have are room for any listing: 15 is never printed
pub listing_room : (s : List ℕ) → length s ≤ 65536 → Room (16 * 65536) (due_of s)
listing_room s h = by (outcome_of s) (length_listing_le s)
  where
    by : (o : FramedOutcome) → ((ls : List FramedLabel) (n : ℕ) → o ≡ listed ls n → length (listing_of ls n) ≤ 16 * length s) → Room (16 * 65536) (listing_due o)
    by (listed ls n) r t e = let k : listing_of ls n ≡ t = cc in omega (arith, r ls n refl, ap length k)
    by (refusal_of n p) r t e = no_text (16 * 65536) n p t e
