-- `structs::element::code_128` meets its contract. Assumes nothing.
use native.Mathlib.Omega.{arith}
use mir.Syntax.{w32}
use mir.Facts.{to_z_pos}
use borrow.Author.Rules.{rules}
use Rattle.structs.proofs.element.code_128.Statement.{statement}
use Rattle.structs.proofs.element.code_128.Tie as tie

returns : tie.Need-returns
returns c = rw (c.barred-a.ensures, to_z_pos w32 {n = c.mode.result} (omega arith), c.mode.ensures) (search rules)

pub code_128_spec : {M : Type 1} → statement M
code_128_spec = tie.close (tie.spec (λ c κs. search rules) (λ c κs. search rules) (λ c. search rules) returns)
