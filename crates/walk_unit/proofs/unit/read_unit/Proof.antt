-- `walk_unit::unit::read_unit` meets its contract. Assumes nothing.
use mathlib.Core.Path.{sym, ◌∙◌, ◌≡◌}
use mathlib.Core.List.{List, [], ◌∷◌}
use Prim.Native.Nat.{ℕ}
use native.Mathlib.Omega.{arith}
use lib.ListN.{length}
use Rattle.grammar.proofs.TurnLineLaws.{line_reads, line_none}
use Rattle.grammar.proofs.TurnBlockLaws.{block_none, block_fault, block_gives}
use Rattle.elements.specs.declared.LabelPosition.{LabelPosition}
use Rattle.walk_theory.specs.Reading.{nothing, reading_of}
use Rattle.grammar.specs.Epl.{epl}
use borrow.Author.Rules.{rules}
use Rattle.walk_unit.proofs.unit.read_unit.Statement.{statement}
use Rattle.walk_unit.proofs.unit.read_unit.Tie as tie

reading_none : (t : List ℕ) (r : LabelPosition) → length t ≡ 0 → reading_of epl t r ≡ nothing
reading_none [] r h = line_none r
reading_none (b ∷ t) r h = absurd (omega arith)

returns : tie.Need-returns-then-rest-eq0
returns c = let a = c.args in rw (reading_none a.rest.now a.reference c.if-rest-eq0.true)

returns-2 : tie.Need-returns-in-NoBlock
returns-2 c =
    let b = c in
    let a = b.args in
    rw (line_reads a.rest.now a.reference (block_none a.at a.rest.now a.reference (sym b.read_block.ensures ∙ c.in-NoBlock.is)) (omega (arith, b.if-rest-eq0.false))) c.read_text_line.ensures

returns-3 : tie.Need-returns-in-Refused
returns-3 c =
    let b = c in
    let a = b.args in
    sym (block_fault a.at a.rest.now a.reference c.in-Refused.n (sym b.read_block.ensures ∙ c.in-Refused.is))

returns-4 : tie.Need-returns-in-Element
returns-4 c =
    let b = c in
    let a = b.args in
    sym (block_gives a.at a.rest.now a.reference c.in-Element.size c.in-Element.e (sym b.read_block.ensures ∙ c.in-Element.is))

pub read_unit_spec : {M : Type 1} → statement M
read_unit_spec =
    tie.close
    (tie.spec
    returns
    (λ c κs. search rules)
    (λ c. search rules)
    (λ c κs. search rules)
    (λ c. search rules)
    (λ c. search rules)
    returns-2
    returns-3
    returns-4)
