-- `writing_element::write::write` meets its contract. Assumes nothing.
use mathlib.Core.Path.{sym}
use Rattle.writing_element.proofs.WriteLaws.{fills_due, flat_due_lem}
use borrow.Author.Rules.{rules}
use Rattle.writing_element.proofs.write.write.Statement.{statement}
use Rattle.writing_element.proofs.write.write.Tie as tie

returns : tie.Need-returns
returns c =
    let put = c in
    let flat = put in
    let a = flat.args in
    fills_due (sym (flat_due_lem a.input.now a.e)) (rw flat.struct_of.ensures at put.write_flat.ensures)

pub write_spec : {M : Type 1} → statement M
write_spec = tie.close (tie.spec (λ c κs. search rules) (λ c κs. search rules) (λ c. search rules) returns)
