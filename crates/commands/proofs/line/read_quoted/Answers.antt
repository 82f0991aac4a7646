-- `commands::line::read_quoted` meets its contract: no data, or the command with its data. The first quote's place
-- gives the data and the parameters.
use mathlib.Core.Path.{◌≡◌, sym, ap, ◌∙◌}
use Prim.Native.Nat.{◌+◌}
use native.Mathlib.Omega.{arith}
use lib.ListN.{length}
use borrow.Author.Tests.{eq-eqb, ne_eqb}
use Rattle.text.specs.Fields.{index_of, before, before_last, quoted}
use Rattle.text.proofs.FieldsLaws.{after_here}
use Rattle.commands.specs.Line.{params_of, quoted_reading}
use Rattle.commands.proofs.LineLaws.{quoted_none}
use Rattle.commands.proofs.line.read_quoted.Goals as goal
use Rattle.commands.proofs.line.read_quoted.Goals.{After-before_last-data}

-- the data that was cut out
cut : (d : After-before_last-data) → d.before_last-data.result.now ≡ quoted d.args.t.now
cut d = d.before_last-data.ensures ∙ ap (before_last 34) (after_here 34 d.args.t.now d.find-q.result d.find-q.ensures.is)

pub returns-then-t-q-lt2 : goal.returns-then-t-q-lt2
unfolding quoted_reading
returns-then-t-q-lt2 c =
    let t = c.args.t.now in
    simp (eq-eqb (length (quoted t)) 0 (quoted_none t (omega (arith, c.find-q.ensures.is))))

pub returns-then-data-eq0 : goal.returns-then-data-eq0
unfolding quoted_reading
returns-then-data-eq0 c =
    simp (eq-eqb (length (quoted c.args.t.now)) 0 (sym (ap length (cut (goal.at.returns-then-data-eq0 c).After-before_last-data)) ∙ c.if-data-eq0.true))

pub returns : goal.returns
unfolding quoted_reading params_of before
returns c =
    let t = c.args.t.now in
    let cut_out = cut (goal.at.returns c).After-before_last-data in
    let start : c.args.lead + (index_of 34 t + 1) ≡ c.args.lead + index_of 34 t + 1 = omega arith in
    simp (ne_eqb (length (quoted t)) 0 (λ h. c.if-data-eq0.false (ap length cut_out ∙ h)))
    (simp (c.without_trailing_commas-params.ensures, c.tail.ensures, c.find-q.ensures.is, cut_out, start) at c.with_data.ensures)
