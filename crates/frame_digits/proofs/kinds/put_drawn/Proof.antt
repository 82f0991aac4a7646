-- `frame_digits::kinds::put_drawn` meets its contract.
-- Assumes nothing.
use Rattle.numbers.proofs.IntLaws.{back32}
use Rattle.frame_bytes.specs.Frame.{extent_bytes}
use Rattle.frame_bytes.proofs.PutLaws.{then}
use borrow.Author.Rules.{rules}
use Rattle.frame_digits.proofs.kinds.put_drawn.Statement.{statement}
use Rattle.frame_digits.proofs.kinds.put_drawn.Tie as tie

returns : tie.Need-returns
unfolding extent_bytes
returns c =
    let mark = c in
    let thickness = mark in let thickness-told = thickness in
    let height = thickness-told in let height-told = height in
    let width = height-told in
    let x = width.args.x in
    then (then (then (rw (back32 x.width width.struct_told-1.given.0.1) at width.put_i32-a.ensures)
    (rw (back32 x.height height-told.struct_told-2-1.given.1.0.1) at height.put_i32-b.ensures))
    (rw (back32 x.thickness thickness-told.struct_told-3-1.given.1.1.0.1) at thickness.put_i32-c.ensures))
    mark.put_byte.ensures

pub put_drawn_spec : {M : Type 1} → statement M
put_drawn_spec =
    tie.close
    (tie.spec
    (λ c κs. search rules)
    (λ c κs. search rules)
    (λ c κs. search rules)
    (λ c κs. search rules)
    (λ c. search rules)
    returns)
