-- `structs_read::same::same_modules` meets its contract. Assumes nothing.
use Rattle.std.proofs.Common.{◌∙◌}
use Rattle.structs_read.proofs.UnflatLaws.{equal_back}
use Rattle.structs_read.proofs.same.same_modules.Goals as goal

pub returns : goal.returns
returns c =
    let a = c.args.a in
    let b = c.args.b in
    let f = c.well_formed.0.1.1.1.1.1.1.1.1.1.1.1.1.1.1.1.1.1.1.1 in
    let g = c.well_formed.1.0.1.1.1.1.1.1.1.1.1.1.1.1.1.1.1.1.1.1.1 in
    rw (
      c.equal.ensures ∙ equal_back a.rows b.rows f.0.1 g.0.1,
      c.equal-2.ensures ∙ equal_back a.magnification b.magnification f.1.0.1 g.1.0.1,
      c.equal-3.ensures ∙ equal_back a.size b.size f.1.1.0.1 g.1.1.0.1,
      c.equal-4.ensures ∙ equal_back a.mode b.mode f.1.1.1.0.1 g.1.1.1.0.1,
    )
