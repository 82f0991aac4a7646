-- `writing_templates::fill::number_at` meets its contract. Assumes nothing.
use mathlib.Core.Path.{◌∙◌}
use Rattle.numbers.proofs.IntLaws.{back32}
use Rattle.writing_templates.proofs.FillLaws.{number_field, number_lines}
use borrow.Author.Rules.{rules}
use Rattle.writing_templates.proofs.fill.number_at.Statement.{statement}
use Rattle.writing_templates.proofs.fill.number_at.Tie as tie

returns : tie.Need-returns-then-i-lt16
returns c =
    let a = c in
    back32 c.field_at.result c.field_at.type_inv ∙ c.field_at.ensures ∙ number_field a.args.e a.args.i c.if-i-lt16.true

returns-2 : tie.Need-returns-then-i-eq16
returns-2 c =
    let x = c in
    let e = x.args.e in
    rw x.if-i-eq16.true
    (back32 c.far.result c.far.type_inv
    ∙ rw (back32 e.x x.struct_told-1.given.1.1.1.1.1.1.1.1.1.0.1, back32 e.width c.struct_told-then-i-eq16-1.given.1.1.1.1.1.1.1.1.1.1.1.0.1) at c.far.ensures)

returns-3 : tie.Need-returns-then-i-eq17
returns-3 c =
    let y = c in
    let e = y.args.e in
    rw y.if-i-eq17.true
    (back32 c.far-then-i-eq17.result c.far-then-i-eq17.type_inv
    ∙ rw (back32 e.y y.struct_told-then-i-eq17-1.given.1.1.1.1.1.1.1.1.1.1.0.1, back32 e.height c.struct_told-then-i-eq17-2-1.given.1.1.1.1.1.1.1.1.1.1.1.1.0.1) at c.far-then-i-eq17.ensures)

returns-4 : tie.Need-returns
returns-4 c =
    let last = c in
    let a = last.args in
    back32 c.lines_of.result c.lines_of.type_inv
    ∙ (rw (back32 a.e.row_bytes c.struct_told-2-1.given.1.1.1.1.1.1.1.1.1.1.1.1.1.1.0.1) at c.lines_of.ensures)
    ∙ number_lines a.e a.i last.if-i-lt16.false last.if-i-eq16.false last.if-i-eq17.false

pub number_at_spec : {M : Type 1} → statement M
number_at_spec =
    tie.close
    (tie.spec (λ c κs. search rules) returns (λ c κs. search rules) returns-2 (λ c κs. search rules) returns-3 (λ c κs. search rules) returns-4)
