-- `texts::fonts::text_width` meets its contract: the three roundings are those of `width_of`.
-- Assumes nothing.
use mir.Facts.{to_z-of_z}
use Rattle.texts.specs.Font.{width_of}
use borrow.Author.Rules.{rules}
use Rattle.texts.proofs.fonts.text_width.Statement.{statement}
use Rattle.texts.proofs.fonts.text_width.Tie as tie

returns : tie.Need-returns
unfolding width_of
returns c =
    let s = c in
    simp (to_z-of_z s.ranges.height, to_z-of_z s.ranges.across)

pub text_width_spec : {M : Type 1} → statement M
text_width_spec =
    tie.close (tie.spec (λ c. search rules) (λ c. search rules) (λ c. search rules) returns)
