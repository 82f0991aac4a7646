-- `frame_digits::frame::put_element` meets its contract.
-- Assumes nothing.
use native.Mathlib.Omega.{arith}
use Rattle.frame_bytes.proofs.PutLaws.{then}
use Rattle.frame_bytes.proofs.FrameLaws.{frame_size, frame_told}
use borrow.Author.Rules.{rules}
use Rattle.frame_digits.proofs.frame.put_element.Statement.{statement}
use Rattle.frame_digits.proofs.frame.put_element.Tie as tie

put-head-requires : tie.Need-put_head-a-requires
put-head-requires c κs =
    let of = c in
    let a = of.args in
    omega (arith, frame_size a.input.now a.e of.plain_of-p.ensures)

put-fields-requires : tie.Need-put_fields-b-requires
put-fields-requires c κs =
    let head = c in
    let of = head in
    let a = of.args in
    omega (arith, frame_size a.input.now a.e of.plain_of-p.ensures)

put-data-requires : tie.Need-put_data-requires
put-data-requires c κs =
    let fields = c in
    let head = fields in
    let of = head in
    let a = of.args in
    omega (arith, frame_size a.input.now a.e of.plain_of-p.ensures)

returns : tie.Need-returns
returns c =
    let behind = c in
    let fields = behind in
    let head = fields in
    let of = head in
    let a = of.args in
    frame_told a.input.now a.e of.plain_of-p.ensures
    (then (then head.put_head-a.ensures fields.put_fields-b.ensures) behind.put_data.ensures)

pub put_element_spec : {M : Type 1} → statement M
put_element_spec =
    tie.close
    (tie.spec
    (λ c κs. search rules)
    put-head-requires
    put-fields-requires
    put-data-requires
    (λ c. search rules)
    returns)
