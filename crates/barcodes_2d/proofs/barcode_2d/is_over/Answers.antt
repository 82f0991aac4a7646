-- `barcodes_2d::barcode_2d::is_over` meets its contract: data of 3,333 bytes at most is decoded to 9,999 at most.
use mathlib.Core.Path.{◌≡◌}
use mathlib.Core.Bool.{not}
use Prim.Native.Nat.{ℕ, min}
use native.Mathlib.Omega.{arith}
use lib.Dec.{leb, ltb}
use lib.ListN.{length}
use borrow.Author.Tests.{le-leb, leb-true, leb-false, lt-ltb, le-ltb}
use Rattle.text.specs.Utf8.{decode}
use Rattle.text.proofs.BoolLaws.{test}
use Rattle.text.proofs.Utf8Laws.{length_decode_le}
use Rattle.barcodes_2d.proofs.barcode_2d.is_over.Goals as goal

-- counted up to 10,000
over_min : (n : ℕ) → ltb 9999 (min 10000 n) ≡ not (leb n 9999)
over_min n =
    test (leb n 9999)
    (λ e. simp e (le-ltb 9999 (min 10000 n) (omega (arith, leb-true n 9999 e))))
    (λ e. simp e (lt-ltb 9999 (min 10000 n) (omega (arith, leb-false n 9999 e))))

pub returns-then-data : goal.returns-then-data
returns-then-data c =
    let t = c.args.«data».now in
    simp (le-leb (length (decode t)) 9999 (omega (arith, length_decode_le t)))

pub returns : goal.returns
returns c =
    let n = length (decode c.args.«data».now) in
    rw c.decoded_len.ensures (over_min n)
