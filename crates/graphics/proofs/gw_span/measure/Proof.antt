-- `graphics::gw_span::measure` meets its contract: the tests in their order. Neither size is negative behind the first
-- two, so the casts keep their values.
-- Assumes nothing.
use mathlib.Core.Path.{◌≡◌}
use mathlib.Core.Bool.{false}
use lib.IntN.{pos}
use lib.Signed.{lt_z}
use mir.Syntax.{w32}
use mir.Val.{of_z, to_z}
use borrow.Author.Tests.{lt-ltb, le-ltb}
use borrow.Author.Rules.{rules}
use Rattle.numbers.proofs.IntLaws.{back32}
use Rattle.graphics.specs.Block.{total, measured}
use Rattle.graphics.proofs.BlockLaws.{size, total_fits}
use Rattle.graphics.proofs.gw_span.measure.Statement.{statement}
use Rattle.graphics.proofs.gw_span.measure.Tie as tie

-- the sizes, read back from their bits
width_back : (d : tie.After-struct_told-2-1) → to_z w32 (of_z w32 d.args.n.width_bytes) ≡ d.args.n.width_bytes
width_back d = back32 d.args.n.width_bytes d.struct_told-2-1.given.1.0.1

lines_back : (d : tie.After-struct_told-2-1) → to_z w32 (of_z w32 d.args.n.lines) ≡ d.args.n.lines
lines_back d = back32 d.args.n.lines d.struct_told-2-1.given.1.1.0.1

-- neither size is negative
width_ok : (d : tie.Else-width-lt0) → lt_z d.args.n.width_bytes (pos 0) ≡ false
width_ok d = simp (width_back d.before) at d.if-width-lt0.false

lines_ok : (d : tie.Else-lines-lt0) → lt_z d.args.n.lines (pos 0) ≡ false
lines_ok d = simp (lines_back d.before.before) at d.if-lines-lt0.false

returns : tie.Need-returns-then-width-lt0
unfolding measured
returns c = simp (simp (width_back c.before) at c.if-width-lt0.true)

returns-2 : tie.Need-returns-then-lines-lt0
unfolding measured
returns-2 c = simp (width_ok c.before, simp (lines_back c.before.before) at c.if-lines-lt0.true)

cast-total : tie.Need-overflow_cast-total
cast-total c =
    let d = c.before.before in
    rw (width_back d) (size d.args.n.width_bytes d.struct_told-2-1.given.1.0.1 (width_ok c.before))

cast-total-2 : tie.Need-overflow_cast-total-2
cast-total-2 c =
    let d = c.before.before in
    rw (lines_back d) (size d.args.n.lines d.struct_told-2-1.given.1.1.0.1 (lines_ok c))

mul-total : tie.Need-overflow_mul-total
mul-total c =
    let d = c.before.before in
    let n = d.args.n in
    rw (width_back d, lines_back d) (total_fits n.width_bytes n.lines d.struct_told-2-1.given.1.0.1 d.struct_told-2-1.given.1.1.0.1)

returns-3 : tie.Need-returns-then-left-total
unfolding measured
returns-3 c =
    let d = c.before.before.before in
    let a = d.args in
    simp (width_ok c.before.before, lines_ok c.before, lt-ltb a.left (total a.n) (simp (width_back d, lines_back d) at c.if-left-total.true))

returns-4 : tie.Need-returns
unfolding measured
returns-4 c =
    let d = c.before.before.before.before in
    let a = d.args in
    rw (width_back d, lines_back d)
    (simp (width_ok c.before.before.before, lines_ok c.before.before, le-ltb a.left (total a.n) (simp (width_back d, lines_back d) at c.if-left-total.false)))

pub measure_spec : {M : Type 1} → statement M
measure_spec =
    tie.close (tie.spec returns returns-2 cast-total cast-total-2 mul-total returns-3 (λ c. search rules) returns-4)
