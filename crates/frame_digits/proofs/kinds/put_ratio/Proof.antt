-- `frame_digits::kinds::put_ratio` meets its contract.
-- Assumes nothing.
use mir.Facts.{to_z-of_z}
use Rattle.frame_bytes.specs.Frame.{field_bytes}
use Rattle.frame_bytes.proofs.PutLaws.{then}
use borrow.Author.Rules.{rules}
use Rattle.frame_digits.proofs.kinds.put_ratio.Statement.{statement}
use Rattle.frame_digits.proofs.kinds.put_ratio.Tie as tie

returns : tie.Need-returns
unfolding field_bytes
returns c =
    let ratio = c in
    let wide = ratio in
    let check = wide in
    let bars = check in
    then bars.put_bars-a.ensures
    (then (then check.put_flag-c.ensures
    (rw (to_z-of_z bars.ranges.wide) at wide.put_i32-d.ensures))
    ratio.put_f64.ensures)

pub put_ratio_spec : {M : Type 1} → statement M
put_ratio_spec =
    tie.close (tie.spec (λ c κs. search rules) (λ c κs. search rules) (λ c κs. search rules) (λ c κs. search rules) (λ c. search rules) returns)
