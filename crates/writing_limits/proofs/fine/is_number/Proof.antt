-- `writing_limits::fine::is_number` meets its contract. Assumes nothing.
use mir.Facts.{to_z-of_z}
use Rattle.numbers.proofs.IntLaws.{back32}
use borrow.Author.Rules.{rules}
use Rattle.writing_limits.proofs.fine.is_number.Statement.{statement}
use Rattle.writing_limits.proofs.fine.is_number.Tie as tie

returns : tie.Need-returns
returns c =
    let a = c.field_at in
    rw (back32 a.result a.type_inv, a.ensures, to_z-of_z c.ranges.z) at c.equal.ensures

pub is_number_spec : {M : Type 1} → statement M
is_number_spec = tie.close (tie.spec (λ c κs. search rules) (λ c κs. search rules) returns)
