-- One line changed, as 01 has it: "Replace one command line by another with the same ending; neither is an `N`,
-- reference or print line".
use Rattle.std.specs.Prelude.{◌≡◌, List, ◌∷◌, ◌++◌, ℕ}
use Rattle.text.specs.Blank.{trim}
use Rattle.command_letters.specs.declared.command.Command.TheVariants.{Clear, Reference, Print}
use Rattle.walk_theory.specs.Division.{Division}
use Rattle.walk_theory.specs.Normal.{each}
use Rattle.grammar.specs.Spelled.{Spells}
use Rattle.grammar.specs.Units.{EplUnit, bytes, Stands}
use Rattle.grammar.specs.Epl.{epl}
use Rattle.line_changes.specs.OneLine.{Ending, unit_of}

-- "neither is an `N`, reference or print line"
pub record Draws (t : List ℕ) : Type 0 where
  pub no_n : Spells Clear (trim t) → ⊥
  pub no_reference : Spells Reference (trim t) → ⊥
  pub no_print : Spells Print (trim t) → ⊥

-- t, a command line of the divided file s, with the units `before` in front of it and `behind` behind it, has become t'
-- in s'
pub record Replacing (s s' t t' : List ℕ) (e : Ending) (before behind : List EplUnit) : Type 0 where
  pub old : Division epl s (before ++ unit_of e t ∷ behind)
  -- "another with the same ending": t' with it is a command line before what stands behind
  pub line : Stands (unit_of e t') (each bytes behind)
  -- all other bytes are the same
  pub new : s' ≡ each bytes (before ++ unit_of e t' ∷ behind)
  pub old_draws : Draws t
  pub new_draws : Draws t'
