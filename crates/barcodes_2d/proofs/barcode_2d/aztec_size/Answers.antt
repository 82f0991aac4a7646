-- `barcodes_2d::barcode_2d::aztec_size` meets its contract: each arm's tests decide the definition's.
use Rattle.std.proofs.Common.{arith}
use Rattle.std.proofs.lemmas.Grind.{common_steps}
use Rattle.barcodes_2d.specs.Barcode2d.{aztec_size}
use Rattle.barcodes_2d.proofs.barcode_2d.aztec_size.Goals as goal

pub returns-in_default : goal.returns-in_default
unfolding aztec_size
returns-in_default c = grind (arith, common_steps)

pub returns-in_default-2 : goal.returns-in_default-2
unfolding aztec_size
returns-in_default-2 c = grind (arith, common_steps)

pub returns-in_default-3 : goal.returns-in_default-3
unfolding aztec_size
returns-in_default-3 c = grind (arith, common_steps)

pub returns-in_default-4 : goal.returns-in_default-4
unfolding aztec_size
returns-in_default-4 c = grind (arith, common_steps)

pub returns-in-1-to-99 : goal.returns-in-1-to-99
unfolding aztec_size
returns-in-1-to-99 c = grind (arith, common_steps)

pub returns-in-1-to-99-2 : goal.returns-in-1-to-99-2
unfolding aztec_size
returns-in-1-to-99-2 c = grind (arith, common_steps)

pub returns-in-1-to-99-3 : goal.returns-in-1-to-99-3
unfolding aztec_size
returns-in-1-to-99-3 c = grind (arith, common_steps)

pub returns-in-1-to-99-4 : goal.returns-in-1-to-99-4
unfolding aztec_size
returns-in-1-to-99-4 c = grind (arith, common_steps)
