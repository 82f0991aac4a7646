-- `frame_digits::kinds::put_text` meets its contract.
-- Assumes nothing.
use Rattle.frame_bytes.specs.Frame.{field_bytes}
use Rattle.frame_bytes.proofs.PutLaws.{then}
use borrow.Author.Rules.{rules}
use Rattle.frame_digits.proofs.kinds.put_text.Statement.{statement}
use Rattle.frame_digits.proofs.kinds.put_text.Tie as tie

returns : tie.Need-returns
unfolding field_bytes
returns c =
    let width = c in
    let height = width in
    let scale = height in
    let reverse = scale in
    let turned = reverse in
    then (then (then (then turned.put_rotation-a.ensures
    reverse.put_flag-b.ensures)
    scale.put_scale-c.ensures)
    height.put_f64-d.ensures)
    width.put_f64.ensures

pub put_text_spec : {M : Type 1} → statement M
put_text_spec =
    tie.close
    (tie.spec
    (λ c κs. search rules)
    (λ c κs. search rules)
    (λ c κs. search rules)
    (λ c κs. search rules)
    (λ c κs. search rules)
    (λ c. search rules)
    returns)
