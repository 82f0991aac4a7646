-- `crate::params::number_from` meets its contract: digits up to the end or a comma, or any field.
-- Assumes nothing.
use Rattle.std.proofs.Common.{◌≡◌, sym, List, ℕ, ◌+◌, ◌-◌, ◌*◌, ◌<◌, true, length, get_or, arith, pos, w32, to_z}
use mir.Facts.{to_z_pos}
use Rattle.text.specs.Class.{is_digit}
use Rattle.text.proofs.BoolLaws.{within_low}
use Rattle.parameters.proofs.PlaceLaws.{Ran, ran_digit, plain_comma, plain_end}
use Rattle.parameters.proofs.params.number_from.Goals as goal

-- a turn: its byte is a digit, whose value stands behind those before it
module _ {s : List ℕ} {at v end : ℕ} (r : Ran s at v end) (h : end < length s) (b : v < 100000000) (d : true ≡ is_digit (get_or s end 0)) where
  turn : Ran s at (v * 10 + get_or s end 0 - 48) (end + 1)
  turn = ran_digit s at v end r h b (sym d) (omega (arith, within_low 48 57 (get_or s end 0) (sym d)))

  cast : to_z w32 (v * 10 + get_or s end 0 - 48) ≡ pos (v * 10 + get_or s end 0 - 48)
  cast = to_z_pos w32 {n = v * 10 + get_or s end 0 - 48} (omega (arith, turn.small))

pub returns-then-end-s : goal.returns-then-end-s
returns-then-end-s c =
    let l = c.loop-value in
    let r = turn l.invariant.0 l.invariant.1 c.loop-value-test.true c.if-is_digit.ensures in
    rw (cast l.invariant.0 l.invariant.1 c.loop-value-test.true c.if-is_digit.ensures)
    (plain_end _ _ _ _ r _ (omega (arith, l.invariant.0.low)) c.if-end-s.true)

pub returns-then-s-end-eq44 : goal.returns-then-s-end-eq44
returns-then-s-end-eq44 c =
    let l = c.loop-value in
    let r = turn l.invariant.0 l.invariant.1 c.loop-value-test.true c.if-is_digit.ensures in
    rw (cast l.invariant.0 l.invariant.1 c.loop-value-test.true c.if-is_digit.ensures)
    (plain_comma _ _ _ _ r _ (omega (arith, l.invariant.0.low)) (omega arith) c.if-s-end-eq44.true)

pub loop-value-preserved : goal.loop-value-preserved
loop-value-preserved c =
    let l = c.loop-value in
    (turn l.invariant.0 l.invariant.1 c.loop-value-test.true c.if-is_digit.ensures, omega arith)
