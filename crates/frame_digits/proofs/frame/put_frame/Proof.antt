-- `frame_digits::frame::put_frame` meets its contract.
-- Assumes nothing.
use native.Mathlib.Omega.{arith}
use Rattle.frame_bytes.specs.Frame.{frame_of}
use Rattle.frame_bytes.proofs.HexLaws.{length_line}
use Rattle.frame_bytes.proofs.PutLaws.{line}
use borrow.Author.Rules.{rules}
use Rattle.frame_digits.proofs.frame.put_frame.Statement.{statement}
use Rattle.frame_digits.proofs.frame.put_frame.Tie as tie

put-element-requires : tie.Need-put_element-a-requires
put-element-requires c κs = let a = c.args in omega (arith, length_line (frame_of a.input.now a.e))

put-lf-requires : tie.Need-put_lf-requires
put-lf-requires c κs = let put = c in let a = put.args in omega (arith, length_line (frame_of a.input.now a.e))

returns : tie.Need-returns
returns c = let lf = c in let put = lf in line put.put_element-a.ensures lf.put_lf.ensures

pub put_frame_spec : {M : Type 1} → statement M
put_frame_spec =
    tie.close
    (tie.spec
    put-element-requires
    put-lf-requires
    (λ c. search rules)
    returns)
