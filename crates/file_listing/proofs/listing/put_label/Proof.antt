-- `file_listing::listing::put_label` meets its contract: frame 00, then the frames of the elements. Assumes nothing.
use mathlib.Core.Path.{◌∙◌}
use mathlib.Core.List.{List, ◌++◌}
use Prim.Native.Nat.{ℕ}
use native.Mathlib.Omega.{arith}
use lib.ListN.{length-append}
use Rattle.frame_bytes.specs.Frame.{label_frame}
use Rattle.frame_bytes.specs.Hex.{line_of}
use Rattle.file_listing.specs.Listing.{lines_of, front_frames}
use Rattle.file_listing.proofs.ListingLaws.{length_frame, length_label}
use Rattle.text.specs.Wrote.{Put}
use Rattle.text.proofs.WroteLaws.{wrote, sets_append}
use borrow.Author.Rules.{rules}
use Rattle.file_listing.proofs.listing.put_label.Statement.{statement}
use Rattle.file_listing.proofs.listing.put_label.Tie as tie

-- the stores of one text and then of another
put_both : {m n l : List ℕ} {at j r : ℕ} (xs ys : List ℕ) → Put m l at xs j → Put n m j ys r → Put n l at (xs ++ ys) r
put_both {m} {n} {l} {at} {j} {r} xs ys a b =
    record {
      wrote = wrote (b.wrote.is ∙ rw (a.wrote.is, a.next) (sets_append l at xs ys));
      next = omega (arith, a.next, b.next, length-append xs ys);
    }

put-label-frame-requires : tie.Need-put_label_frame-to-requires
put-label-frame-requires c κs = let a = c.args in omega (arith, length_label a.p.count a.p.counts (front_frames a.input.now a.first))

put-elements-requires : tie.Need-put_elements-requires
put-elements-requires c κs =
    let k = c in
    let counts = k in
    let a = counts.args in
    let w = k.put_label_frame-to.ensures in
    omega (arith, length_label a.p.count a.p.counts (front_frames a.input.now a.first), w.next, w.wrote.long, length_frame a.p.count a.p.counts)

returns : tie.Need-returns
returns c =
    let w = c in
    let k = w in
    let counts = k in
    let a = counts.args in
    put_both (line_of (label_frame a.p.count a.p.counts)) (lines_of (front_frames a.input.now a.first)) k.put_label_frame-to.ensures w.put_elements.ensures

pub put_label_spec : {M : Type 1} → statement M
put_label_spec = tie.close (tie.spec put-label-frame-requires put-elements-requires (λ c. search rules) returns)
