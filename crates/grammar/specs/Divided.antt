-- The labels of a division, how many elements are pending at its end, and the earliest refused unit (01,
-- "For demand 3"), from the roles of units, their numbers, the reference and the faults.
use Rattle.std.specs.Prelude.{◌≡◌, cond, List, [], ◌∷◌, ◌++◌, ℕ, suc, ◌+◌, eqb, length}
use Rattle.elements.specs.declared.LabelElement.{LabelElement}
use Rattle.elements.specs.declared.LabelPosition.{LabelPosition}
use Rattle.walk_theory.specs.Language.{keep, clear, yield, print, outside}
use Rattle.walk_theory.specs.Labels.{Label, flush}
use Rattle.grammar.specs.Units.{EplUnit, bytes, Stands}
use Rattle.grammar.specs.Epl.{EplPrint, EplAct, acts}
use Rattle.grammar.specs.Ranges.{AllFit, numbers_of, ref_after, Role, passes, clears, yields, prints, role_of}
use Rattle.grammar.specs.Faults.{Fault}

-- F are frames, `frame s e` that of the element e in the string s
module _ {F : Type 0} (frame : List ℕ → LabelElement → F) where
  -- the frame of the element that a unit yields
  abbrev pub yielded_by : EplUnit → EplAct → List F
  yielded_by u (yield e) = frame (bytes u) e ∷ []
  yielded_by u (keep r) = []
  yielded_by u (clear r) = []
  yielded_by u (print q) = []
  yielded_by u (outside n) = []

  -- "an element that the unit yields becomes pending; `N` drops what is pending; a print line .. prints it .. and
  -- nothing is then pending"
  abbrev pub pending_after : Role → List F → List F → List F
  pending_after passes p f = p
  pending_after clears p f = []
  pending_after yields p f = p ++ f
  pending_after (prints c) p f = []

  -- "a print line prints it, if there is any, as a label with its count"
  abbrev pub printed_by : Role → List F → List (Label F EplPrint)
  printed_by passes p = []
  printed_by clears p = []
  printed_by yields p = []
  printed_by (prints c) p = flush c p

  -- "go unit by unit", from the reference r with p pending; "The end prints nothing"
  abbrev pub labels_by : LabelPosition → List F → List EplUnit → List (Label F EplPrint)
  labels_by r p [] = []
  labels_by r p (u ∷ us) =
      printed_by (role_of u) p ++ labels_by (ref_after r u) (pending_after (role_of u) p (yielded_by u (acts r u))) us

-- how many are pending after a unit of this role, n being pending before it
abbrev pub count_after : Role → ℕ → ℕ
count_after passes n = n
count_after clears n = 0
count_after yields n = suc n
count_after (prints c) n = 0

-- "elements pending there are no label, and their count is the division's": by the roles of the units alone
abbrev pub pending_by : ℕ → List EplUnit → ℕ
pending_by n [] = n
pending_by n (u ∷ us) = pending_by (count_after (role_of u) n) us

-- "the earliest refused line" of s, which stands at a place with the reference r: number and place; at fault as it
-- stands, or Out as that number, every unit before it being in range and not at fault
pub data Earliest (Out : LabelPosition → EplUnit → ℕ → Type 0) : List ℕ → ℕ → LabelPosition → ℕ → ℕ → Type 0 where
  faulty : {s : List ℕ} {at : ℕ} {r : LabelPosition} {n : ℕ} → Fault s n → Earliest Out s at r n at
  beyond : (u : EplUnit) (rest : List ℕ) {s : List ℕ} {at : ℕ} {r : LabelPosition} {n : ℕ}
      → s ≡ bytes u ++ rest → Stands u rest → Out r u n → Earliest Out s at r n at
  later : (u : EplUnit) (rest : List ℕ) {s : List ℕ} {at : ℕ} {r : LabelPosition} {n q : ℕ}
      → s ≡ bytes u ++ rest → Stands u rest → AllFit (numbers_of r u)
      → Earliest Out rest (at + length (bytes u)) (ref_after r u) n q → Earliest Out s at r n q

-- 19 where positions and sizes have one number: "13 and 19 together cover what 13 covered"
abbrev pub together : ℕ → ℕ
together n = cond (eqb n 19) 13 n
