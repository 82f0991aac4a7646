-- `writing_label::label::put_print`: the line, from its numbers.
use Rattle.std.proofs.Common.{sym, ap}
use mir.Facts.{to_z-of_z}
use Rattle.decimals.specs.Decimal.{decimal}
use Rattle.decimals.proofs.PutLaws.{put_as}
use Rattle.writing_label.proofs.PrintLaws.{print_put}
use Rattle.writing_label.proofs.label.put_print.Goals as goal

pub returns : goal.returns
returns c =
    print_put c.args.sets c.args.copies
    (put_as (ap decimal (sym (to_z-of_z c.ranges.sets))) c.put_decimal-a.ensures)
    (put_as (ap decimal (sym (to_z-of_z c.ranges.copies))) c.put_decimal-b.ensures)
