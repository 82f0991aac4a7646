-- `structs_read::same::same` meets its contract. Assumes nothing.
use Rattle.structs_read.specs.Unflat.{same_element}
use borrow.Author.Rules.{rules}
use Rattle.structs_read.proofs.same.same.Statement.{statement}
use Rattle.structs_read.proofs.same.same.Tie as tie

returns : tie.Need-returns
unfolding same_element
returns c =
    let modules = c in
    let places = modules in
    rw (
      places.same_flags.ensures,
      places.same_places.ensures,
      modules.same_counts.ensures,
      modules.same_modules.ensures,
      c.same_scales.ensures,
      c.same_sizes.ensures,
      c.same_data.ensures,
    )

pub same_spec : {M : Type 1} → statement M
same_spec =
    tie.close
    (tie.spec (λ c κs. search rules) (λ c κs. search rules) (λ c κs. search rules) (λ c κs. search rules)
    (λ c κs. search rules) (λ c κs. search rules) (λ c κs. search rules) returns)
