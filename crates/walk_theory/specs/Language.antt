-- A language of units: what a unit is, where it stands, what it does (01, "Grammar" and "For demand 3"). EPL's is in
-- the crate `grammar`.
use Rattle.std.specs.Prelude.{List, ℕ}

-- what stands first in a string: nothing, a fault with its number, or a unit and what follows it
pub data First (U : Type 0) : Type 0 where
  none : First U
  bad : ℕ → First U
  unit : U → List ℕ → First U

-- what a unit does at a reference: it sets it, clears, yields an element, prints (and says so much of the print), or
-- has a number outside its range
pub data Act (R E P : Type 0) : Type 0 where
  keep : R → Act R E P
  clear : R → Act R E P
  yield : E → Act R E P
  print : P → Act R E P
  outside : ℕ → Act R E P

-- a language of units: references, elements and what a print says; the units' bytes, where they stand, the unit that
-- stands first, what a unit does at a reference, and an element moved to a later place
pub record Language : Type 1 where
  pub U : Type 0
  pub R : Type 0
  pub E : Type 0
  pub P : Type 0
  pub bytes : U → List ℕ
  pub Stands : U → List ℕ → Type 0
  pub first : List ℕ → First U
  pub act : R → U → Act R E P
  pub shifted : ℕ → E → E
