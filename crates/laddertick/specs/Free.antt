-- A text in which a byte does not stand.
use Rattle.std.specs.Prelude.{not, List, ℕ, eqb}
use Rattle.grammar.specs.Units.{All}

-- no byte of s is c
abbrev pub Free : ℕ → List ℕ → Type 0
Free c s = All (λ b. not (eqb b c)) s
