-- `barcodes_2d::maxicode::header_at` meets its contract: fewer than 7 bytes are no header, and of 7 or more the first 7
-- are compared.
use mathlib.Core.Path.{sym}
use borrow.Author.Rules.{rules}
use Rattle.barcodes_2d.proofs.MaxicodeLaws.{header_short, header_bytes}
use Rattle.barcodes_2d.proofs.maxicode.header_at.Goals as goal

pub returns-then-s-lt7 : goal.returns-then-s-lt7
returns-then-s-lt7 c = sym (header_short c.args.s.now c.if-s-lt7.true)

pub returns : goal.returns
returns c = header_bytes c.args.s.now (search rules)
