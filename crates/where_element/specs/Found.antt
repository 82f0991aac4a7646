-- What a call over one label's elements answers (01, "What lies where"), and the code's answer read so.
use Rattle.std.specs.Prelude.{ℕ}
use Rattle.elements.specs.Given.{Given, bytes}
use Rattle.elements.specs.Given as given
use Rattle.elements.specs.Refusals.{number_of}
use Rattle.where_element.specs.declared.found.Found.{Found}
use Rattle.where_element.specs.declared.found.Found.TheVariants.{Number, Refused}

-- one element's number, or a refusal
pub data Spot : Type 0 where
  element : ℕ → Spot
  refused : ℕ → ℕ → Spot

-- what the code answers, a refusal by 01's number: how many numbers are in the list, or one number
abbrev pub given_found : Found → Given
given_found (Number n) = bytes n
given_found (Refused k p) = given.refused (number_of k) p

abbrev pub spot_of : Found → Spot
spot_of (Number n) = element n
spot_of (Refused k p) = refused (number_of k) p
