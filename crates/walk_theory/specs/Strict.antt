-- A strict reading of a language of units (01, "The well-site profile"): what stands first is shown to a guard before
-- it is read, and what the guard objects to is a fault with the guard's number.
use Rattle.std.specs.Prelude.{◌≡◌, cond, List, ◌++◌, ◌⊎◌, ℕ, zero, suc, ◌+◌, ◌<◌, ltb, length, drop}
use Rattle.std.proofs.Math.Option.{Option, none, some}
use Rattle.walk_theory.specs.Language as language
use Rattle.walk_theory.specs.Language.{First, bad, unit, Act, keep, clear, yield, print, outside, Language}
use Rattle.walk_theory.specs.Reach.{Final, accepted, refusal}
use Rattle.walk_theory.specs.Trace.{Trace, final}

-- what stands first, unless there is an objection
abbrev pub unless : {U : Type 0} → Option ℕ → First U → First U
unless none o = o
unless (some n) o = bad n

module _ (L : Language) (guard : List ℕ → Option ℕ) where
  open L use {U, R, E, P, bytes, first, act, shifted}

  abbrev pub strict_first : List ℕ → First U
  strict_first s = unless (guard s) (first s)

  -- units, references, elements and what a unit does are the language's own; a unit stands where it is found
  abbrev pub strictly : Language
  strictly =
      record {
        U = U;
        R = R;
        E = E;
        P = P;
        bytes = bytes;
        Stands = λ u rest. strict_first (bytes u ++ rest) ≡ unit u rest;
        first = strict_first;
        act = act;
        shifted = shifted;
      }

-- the plain walk t and the strict walk u of a string: the same, or the strict one ends in a refusal with one of its own
-- numbers
abbrev pub Along : {E P : Type 0} → (ℕ → Type 0) → Trace E P → Trace E P → Type 0
Along Own t u = (t ≡ u) ⊎ ((n : ℕ) × (p : ℕ) × Own n × (final u ≡ refusal n p))

-- ---- how a walk ends, told unit by unit, whatever it answers on the way
module _ (L : Language) where
  open L use {U, R, E, P, bytes, first, act}

  -- at the unit u, n elements being pending; `go` tells it from a later place on
  abbrev pub ending_act : (ℕ → R → ℕ → Final) → Act R E P → U → ℕ → R → ℕ → Final
  ending_act go (keep r') u at r n = go (at + length (bytes u)) r' n
  ending_act go (clear r') u at r n = go (at + length (bytes u)) r' zero
  ending_act go (yield e) u at r n = go (at + length (bytes u)) r (suc n)
  ending_act go (print q) u at r n = go (at + length (bytes u)) r zero
  ending_act go (outside k) u at r n = refusal k at

  abbrev pub ending_first : (List ℕ → ℕ → R → ℕ → Final) → First U → ℕ → R → ℕ → Final
  ending_first go language.none at r n = accepted n
  ending_first go (bad k) at r n = refusal k at
  ending_first go (unit u rest) at r n = ending_act (go rest) (act r u) u at r n

  -- from a place on, where rest stands; its length bounds the units
  abbrev pub ending_by : ℕ → List ℕ → ℕ → R → ℕ → Final
  ending_by zero rest at r n = accepted n
  ending_by (suc k) rest at r n = ending_first (λ rest' at' r' n'. ending_by k rest' at' r' n') (first rest) at r n

-- ---- a strict walk in two passes: the plain walk, then a look at the units that it has read
-- an objection at a place, or what is said else
abbrev pub or_else : Option ℕ → ℕ → Final → Final
or_else none at f = f
or_else (some n) at f = refusal n at

-- the place up to which the units begin that a walk has read which ended so, m being the end of the input: a unit that
-- is refused is among them
abbrev pub reached : ℕ → Final → ℕ
reached m (accepted n) = m
reached m (refusal n p) = suc p

-- the first objection to a unit that begins before `end`, rest standing at the place `at` and `size` telling the bytes
-- of the unit that stands first; f where there is none
module _ (guard : List ℕ → Option ℕ) (size : List ℕ → ℕ) where
  abbrev pub objected_by : ℕ → List ℕ → ℕ → ℕ → Final → Final
  objected_by zero rest at end f = f
  objected_by (suc k) rest at end f =
      cond (ltb at end) (or_else (guard rest) at (objected_by k (drop (size rest) rest) (at + size rest) end f)) f

-- of a refusal of the walk of m bytes: Q holds of its number, and its place lies inside
abbrev pub Ends : (ℕ → Type 0) → ℕ → Final → Type 0
Ends Q m (accepted n) = Unit
Ends Q m (refusal n p) = Q n × (p < m)
