-- `frame_digits::frame::frame_len` meets its contract.
-- Assumes nothing.
use native.Mathlib.Omega.{arith}
use Rattle.frame_bytes.proofs.FrameLaws.{frame_size}
use borrow.Author.Rules.{rules}
use Rattle.frame_digits.proofs.frame.frame_len.Statement.{statement}
use Rattle.frame_digits.proofs.frame.frame_len.Tie as tie

returns : tie.Need-returns
returns c =
    let of = c in
    let a = of.args in
    omega (arith, frame_size a.input.now a.e of.plain_of-p.ensures)

pub frame_len_spec : {M : Type 1} → statement M
frame_len_spec =
    tie.close
    (tie.spec (λ c κs. search rules) (λ c κs. search rules) (λ c. search rules) (λ c κs. search rules) returns)
