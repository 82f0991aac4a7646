-- `writing_label::label::write_label`: two passes are what is due.
use Rattle.std.proofs.Common.{◌∙◌, length, arith}
use mir.Facts.{to_z-of_z}
use Rattle.elements.specs.Given.{Fills, given_of}
use Rattle.writing_label.specs.Label.{plain_label_due}
use Rattle.writing_label.specs.Tally.{TurnOf}
use Rattle.writing_label.specs.Plan.{plan_of, finish_of}
use Rattle.writing_label.proofs.Dues.{label_due_lem, said}
use Rattle.writing_label.proofs.label.write_label.Goals as goal

pub returns : goal.returns
returns c =
    let s = c.args.input.now in
    let xs = c.args.elements.now in
    let l = c.args.out.now in
    let sets = c.args.sets in
    let copies = c.args.copies in
    let m = c.pass-m.result in
    let p = c.plan-p.result in
    let e = c.pass-e.result in
    -- the buffer keeps its length in the first pass, and the counts are read back from their bits
    let plans = c.plan-p.ensures ∙ (λ i. plan_of (length s) (length xs) (c.pass-m.auto.out i) m (to_z-of_z c.ranges.sets i) (to_z-of_z c.ranges.copies i)) in
    let finishes = c.finish.ensures ∙ (λ i. finish_of p e (to_z-of_z c.ranges.sets i) (to_z-of_z c.ranges.copies i) c.pass-e.new.out) in
    said (TurnOf s) (λ k. plan_of (length s) (length xs) (length l) k sets copies) (λ n r. Fills n l (plain_label_due s xs (record { sets = sets; copies = copies })) (given_of r)) xs l sets copies
    (λ k n. label_due_lem s xs l sets copies k n (omega arith) (omega arith) c.ranges.sets.sfits c.ranges.copies.sfits)
    c.measuring.result m c.begin-c.result e p c.finish.result c.pass-m.new.out c.begin-c.new.out c.pass-e.new.out c.finish.new.out
    c.measuring.ensures c.pass-m.ensures plans c.begin-c.ensures c.pass-e.ensures finishes
