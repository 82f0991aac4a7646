-- `normal_lines::line::piece` meets its contract. Assumes nothing.
use mathlib.Core.Path.{sym, ap, ◌∙◌}
use Prim.Native.Nat.{ℕ}
use lib.ListN.{take}
use Rattle.text.specs.Blank.{front}
use Rattle.grammar.specs.Units.{not_lf}
use Rattle.grammar.proofs.TurnLineLaws.{front_index}
use borrow.Author.Rules.{rules}
use Rattle.normal_lines.proofs.line.piece.Statement.{statement}
use Rattle.normal_lines.proofs.line.piece.Tie as tie

returns : tie.Need-returns
returns c =
    let f = c in
    let n = f in
    c.first.ensures ∙ ap (λ (k : ℕ). take k n.first-near.result.now) f.find.ensures.is ∙ sym (front_index n.first-near.result.now) ∙ ap (front not_lf) n.first-near.ensures

pub piece_spec : {M : Type 1} → statement M
piece_spec = tie.close (tie.spec (λ c κs. search rules) (λ c κs. search rules) (λ c κs. search rules) returns)
