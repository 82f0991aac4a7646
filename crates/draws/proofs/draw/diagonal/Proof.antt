-- `draws::draw::diagonal` meets its contract: the match tells what was drawn, and its numbers are read back from their
-- bits.
-- Assumes nothing.
use mir.Facts.{to_z-of_z}
use Rattle.numbers.proofs.IntLaws.{back32}
use borrow.Author.Rules.{rules}
use Rattle.draws.proofs.draw.diagonal.Statement.{statement}
use Rattle.draws.proofs.draw.diagonal.Tie as tie

returns : tie.Need-returns-in-At
returns c =
    let known = c.struct_told-1.given in
    let sized = c in rw (back32 sized.in-At.at.width known.1.0.1, back32 sized.in-At.at.height known.1.1.0.1, to_z-of_z sized.ranges.thickness)
    (simp sized.in-At.is)

pub diagonal_spec : {M : Type 1} → statement M
diagonal_spec =
    tie.close (tie.spec (λ c. search rules) (λ c. search rules) (λ c. search rules)
    returns (λ c. simp c.in-Outside.is) (λ c. simp c.in-SizeOutside.is))
