-- `crate::gw_span::is_line_blank` meets its contract: an ASCII blank and no LF, as antt computes at each byte.
-- Assumes nothing.
use mathlib.Core.Path.{ap, ◌∙◌}
use mathlib.Core.Bool.{Bool, not, ◌&&◌}
use Prim.Native.Nat.{ℕ}
use lib.Dec.{eqb}
use borrow.Author.Rules.{rules}
use Rattle.text.specs.Blank.{is_ascii_blank}
use Rattle.byte_classes.proofs.TableLaws.{bytes}
use Rattle.graphics.specs.Block.{is_line_blank}
use Rattle.graphics.proofs.gw_span.is_line_blank.Statement.{statement}
use Rattle.graphics.proofs.gw_span.is_line_blank.Tie as tie

returns : tie.Need-returns
returns c =
    let b = c.args.b in
    ap (λ (x : Bool). x && not (eqb b 10)) c.is_ascii_blank.ensures ∙ bytes (λ (b : ℕ). is_ascii_blank b && not (eqb b 10)) is_line_blank tt b (search rules)

pub is_line_blank_spec : {M : Type 1} → statement M
is_line_blank_spec = tie.close (tie.spec (λ c κs. search rules) returns)
