-- `dots::length::rising` meets its contract: `to300` of a number that is not below 0 is this quotient. Assumes nothing.
use Prim.Native.Nat.{◌+◌, ◌*◌, ◌/◌}
use lib.IntN.{pos}
use mir.Syntax.{w32}
use mir.Facts.{to_z_pos}
use Rattle.dots.proofs.LengthLaws.{to300_pos, converted_at, converted_past}
use borrow.Author.Rules.{rules}
use Rattle.dots.proofs.length.rising.Statement.{statement}
use Rattle.dots.proofs.length.rising.Tie as tie

returns : tie.Need-returns-then-z-lt2147483648
returns c =
    let k = c.args.k in
    rw (to_z_pos w32 {n = (k * 600 + 203) / 406} c.if-z-lt2147483648.true) (converted_at (pos k) (pos ((k * 600 + 203) / 406)) (to300_pos k) c.if-z-lt2147483648.true)

returns-2 : tie.Need-returns
returns-2 c = let k = c.args.k in converted_past (pos k) (pos ((k * 600 + 203) / 406)) (to300_pos k) c.if-z-lt2147483648.false

pub rising_spec : {M : Type 1} → statement M
rising_spec = tie.close (tie.spec (λ c. search rules) (λ c. search rules) (λ c. search rules) returns returns-2)
