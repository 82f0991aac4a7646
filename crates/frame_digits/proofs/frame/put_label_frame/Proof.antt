-- `frame_digits::frame::put_label_frame` meets its contract.
-- Assumes nothing.
use Rattle.numbers.proofs.IntLaws.{back32}
use Rattle.frame_bytes.specs.Frame.{be32, label_frame}
use Rattle.frame_bytes.proofs.PutLaws.{then, line}
use borrow.Author.Rules.{rules}
use Rattle.frame_digits.proofs.frame.put_label_frame.Statement.{statement}
use Rattle.frame_digits.proofs.frame.put_label_frame.Tie as tie

returns : tie.Need-returns
unfolding label_frame be32
returns c =
    let lf = c in
    let copies = lf in let copies-told = copies in
    let sets = copies-told in let sets-told = sets in
    let count = sets-told in
    let kind = count in
    let q = kind.args.counts in
    line
    (then kind.put_byte-a.ensures
    (then count.put_u32-b.ensures
    (then (rw (back32 q.sets sets-told.struct_told-1.given.0.1) at sets.put_i32-c.ensures)
    (rw (back32 q.copies copies-told.struct_told-2-1.given.1.0.1) at copies.put_i32-d.ensures))))
    lf.put_lf.ensures

pub put_label_frame_spec : {M : Type 1} → statement M
put_label_frame_spec =
    tie.close
    (tie.spec
    (λ c κs. search rules) (λ c κs. search rules) (λ c κs. search rules) (λ c κs. search rules) (λ c κs. search rules)
    (λ c. search rules)
    returns)
