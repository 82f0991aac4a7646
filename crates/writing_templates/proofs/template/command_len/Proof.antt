-- `writing_templates::template::command_len` meets its contract. Assumes nothing.
use mathlib.Core.Path.{subst}
use mathlib.Core.List.{List}
use Prim.Native.Nat.{ℕ}
use borrow.Author.Rules.{rules}
use Rattle.writing_templates.specs.Fill.{FillLen}
use Rattle.writing_templates.proofs.template.command_len.Statement.{statement}
use Rattle.writing_templates.proofs.template.command_len.Tie as tie

returns : tie.Need-returns
returns c =
    let a = c.args in
    subst (λ (t : List ℕ). FillLen a.e a.len t c.fill_len.result) c.template-t.ensures c.fill_len.ensures

pub command_len_spec : {M : Type 1} → statement M
command_len_spec =
    tie.close (tie.spec (λ c κs. search rules) (λ c. search rules) (λ c κs. search rules) returns)
