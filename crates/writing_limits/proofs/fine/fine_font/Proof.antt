-- `writing_limits::fine::fine_font` meets its contract. Assumes nothing.
use Rattle.numbers.proofs.IntLaws.{back32}
use borrow.Author.Rules.{rules}
use Rattle.writing_limits.proofs.fine.fine_font.Statement.{statement}
use Rattle.writing_limits.proofs.fine.fine_font.Tie as tie

returns : tie.Need-returns
returns c =
    let info = c in
    let font = info.field_at in
    let horizontal = info.field_at-2 in
    let vertical = info.field_at-3 in
    rw (
      c.in_range.ensures,
      c.in_range-2.ensures,
      c.is_sized.ensures,
      rw (back32 font.result font.type_inv, font.ensures, back32 horizontal.result horizontal.type_inv, horizontal.ensures, back32 vertical.result vertical.type_inv, vertical.ensures)
          at info.font_info-s.ensures,
    )

pub fine_font_spec : {M : Type 1} → statement M
fine_font_spec =
    tie.close
    (tie.spec (λ c κs. search rules) (λ c κs. search rules) (λ c κs. search rules) (λ c κs. search rules)
    (λ c κs. search rules) (λ c κs. search rules) (λ c κs. search rules) returns)
