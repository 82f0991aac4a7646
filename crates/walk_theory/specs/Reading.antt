-- What stands first and what it does, as a reader of one unit answers it: with the unit's length in place of its bytes.
use Rattle.std.specs.Prelude.{List, ℕ, length}
use Rattle.walk_theory.specs.Language.{First, none, bad, unit, Act, keep, clear, yield, print, outside, Language}

pub data Reading (R E P : Type 0) : Type 0 where
  nothing : Reading R E P
  fault : ℕ → Reading R E P
  passes : ℕ → R → Reading R E P
  clears_to : ℕ → R → Reading R E P
  gives : ℕ → E → Reading R E P
  asks_print : ℕ → P → Reading R E P

-- a unit of so many bytes, by what it does
abbrev pub did : {R E P : Type 0} → ℕ → Act R E P → Reading R E P
did size (keep r) = passes size r
did size (clear r) = clears_to size r
did size (yield e) = gives size e
did size (print q) = asks_print size q
did size (outside n) = fault n

module _ (L : Language) where
  open L use {U, R, E, P, bytes, first, act, shifted}

  abbrev pub reading : R → First U → Reading R E P
  reading r none = nothing
  reading r (bad n) = fault n
  reading r (unit u rest) = did (length (bytes u)) (act r u)

  abbrev pub reading_of : List ℕ → R → Reading R E P
  reading_of s r = reading r (first s)

  -- a reading of what stands at a place: its element is moved there
  abbrev pub moved : ℕ → Reading R E P → Reading R E P
  moved at nothing = nothing
  moved at (fault n) = fault n
  moved at (passes size r) = passes size r
  moved at (clears_to size r) = clears_to size r
  moved at (gives size e) = gives size (shifted at e)
  moved at (asks_print size q) = asks_print size q
