-- `barcodes_2d::options::value_from` meets its contract, by what stands there.
use mathlib.Core.Path.{sym, ◌∙◌}
use Rattle.barcodes_2d.proofs.OptionsLaws.{value_letter, value_none, value_end}
use Rattle.barcodes_2d.proofs.options.value_from.Goals as goal

pub digits_from-requires : goal.digits_from-requires
digits_from-requires c = (c.if-from-s.true, sym c.is_digit.ensures ∙ c.if-is_digit.true)

pub returns-then-is_letter : goal.returns-then-is_letter
returns-then-is_letter c =
    value_letter c.args.s.now c.args.from c.if-from-s.true (sym c.is_letter.ensures ∙ c.if-is_letter.true) (sym c.is_digit.ensures ∙ c.if-is_digit.false)

pub returns-else-is_letter : goal.returns-else-is_letter
returns-else-is_letter c =
    value_none c.args.s.now c.args.from c.if-from-s.true (sym c.is_letter.ensures ∙ c.if-is_letter.false) (sym c.is_digit.ensures ∙ c.if-is_digit.false)

pub returns-else-from-s : goal.returns-else-from-s
returns-else-from-s c = value_end c.args.s.now c.args.from c.requires c.if-from-s.false
