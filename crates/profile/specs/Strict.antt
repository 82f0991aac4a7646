-- The strict reading (01, "The well-site profile"): EPL under the profile. Within a line: count, 17 and 18, type, data
-- size, 13, 19; for `GW` 10, 11, 12, 17 and 18, 13.
use Rattle.std.specs.Prelude.{◌≡◌, List, ◌⊎◌, ℕ}
use Rattle.std.proofs.Math.Option.{Option, none, some}
use Rattle.walk_theory.specs.Language.{Language}
use Rattle.walk_theory.specs.Strict.{strictly}
use Rattle.grammar.specs.Epl.{epl}
use Rattle.profile.specs.declared.rule.Objection.{Objection}
use Rattle.profile.specs.declared.rule.Objection.TheVariants.{Fine, To}
use Rattle.profile.specs.Profile.{number_of, objection}

-- an objection by its number alone
abbrev pub numbered : Objection → Option ℕ
numbered Fine = none
numbered (To k h) = some (number_of h)

-- the profile as a guard
abbrev pub profile : List ℕ → Option ℕ
profile s = numbered (objection s)

abbrev pub strict : Language
strict = strictly epl profile

-- the numbers that only the strict reading has
abbrev pub Own : ℕ → Type 0
Own n = (n ≡ 17) ⊎ (n ≡ 18)
