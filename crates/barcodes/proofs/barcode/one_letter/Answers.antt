-- `barcodes::barcode::one_letter` meets its contract, arm by arm.
use Rattle.std.proofs.Common.{arith}
use Rattle.std.proofs.lemmas.Grind.{common_steps}
use Rattle.barcodes.specs.Letters.{one_letter}
use Rattle.barcodes.proofs.barcode.one_letter.Goals as goal

pub returns-in-48 : goal.returns-in-48
unfolding one_letter
returns-in-48 c = rw c.in-48.is

pub returns-in-49 : goal.returns-in-49
unfolding one_letter
returns-in-49 c = rw c.in-49.is

pub returns-in-50 : goal.returns-in-50
unfolding one_letter
returns-in-50 c = rw c.in-50.is

pub returns-in-51 : goal.returns-in-51
unfolding one_letter
returns-in-51 c = rw c.in-51.is

pub returns-in_default : goal.returns-in_default
unfolding one_letter
returns-in_default c = grind (arith, common_steps)
