-- One step of the walk, on a list (01, "Forms that change"): what stands first decides, units that answer nothing are
-- passed.
use Rattle.std.specs.Prelude.{cond, ◌||◌, List, ℕ, zero, suc, ◌+◌, ltb, length, drop}
use Rattle.elements.specs.Given.{longest}
use Rattle.walk_theory.specs.Language.{First, none, bad, unit, Act, keep, clear, yield, print, outside, Language}

-- "The state is the place, the reference and the pending count"
pub record State (R : Type 0) : Type 0 where
  pub place : ℕ
  pub ref : R
  pub pending : ℕ

abbrev pub state : {R : Type 0} → ℕ → R → ℕ → State R
state at r n = record { place = at; ref = r; pending = n }

-- "each step answers an element, a clear, a print, the end or a refusal"; "A print carries the element count"
pub data Answer (R E P : Type 0) : Type 0 where
  element : E → State R → Answer R E P
  cleared : State R → Answer R E P
  printed : ℕ → P → State R → Answer R E P
  ended : State R → Answer R E P
  refused : ℕ → ℕ → State R → Answer R E P

-- "A refused walk step hands its state back": the one that was given
unfoldable pub handing : {R E P : Type 0} → State R → Answer R E P → Answer R E P
handing g (element e st) = element e st
handing g (cleared st) = cleared st
handing g (printed n q st) = printed n q st
handing g (ended st) = ended st
handing g (refused n p st) = refused n p g

module _ (L : Language) where
  open L use {U, R, E, P, bytes, first, act, shifted}

  -- at a print line what is pending is printed
  abbrev pub printing : P → Answer R E P → ℕ → R → ℕ → Answer R E P
  printing q else at r zero = else
  printing q else at r (suc n) = printed (suc n) q (state at r zero)

  -- at the unit u; `go` answers from a later place on
  abbrev pub on_act : (ℕ → R → Answer R E P) → Act R E P → U → ℕ → R → ℕ → Answer R E P
  on_act go (keep r') u at r n = go (at + length (bytes u)) r'
  on_act go (clear r') u at r n = cleared (state (at + length (bytes u)) r' zero)
  on_act go (yield e) u at r n = element (shifted at e) (state (at + length (bytes u)) r (suc n))
  on_act go (print q) u at r n = printing q (go (at + length (bytes u)) r) (at + length (bytes u)) r n
  on_act go (outside k) u at r n = refused k at (state at r n)

  abbrev pub on_first : (List ℕ → ℕ → R → Answer R E P) → First U → ℕ → R → ℕ → Answer R E P
  -- "The end prints nothing, and is answered again and again": what is pending stays pending
  on_first go none at r n = ended (state at r n)
  on_first go (bad k) at r n = refused k at (state at r n)
  on_first go (unit u rest) at r n = on_act (go rest) (act r u) u at r n

  -- the first answer from a place, `rest` standing there; each unit passed takes a byte at least, so rest's length
  -- bounds them
  abbrev pub answer_by : ℕ → List ℕ → ℕ → R → ℕ → Answer R E P
  answer_by zero rest at r n = refused 0 at (state at r n)
  answer_by (suc k) rest at r n = on_first (λ rest' at' r'. answer_by k rest' at' r' n) (first rest) at r n

  unfoldable pub answer : List ℕ → ℕ → R → ℕ → Answer R E P
  answer rest at r n = answer_by (suc (length rest)) rest at r n

  -- "Order: 14, 16, then the earliest refused line"
  unfoldable pub step : List ℕ → State R → Answer R E P
  step s st =
      cond (ltb longest (length s)) (refused 14 0 st)
      (cond (ltb (length s) st.place || ltb st.place st.pending) (refused 16 st.place st)
      (handing st (answer (drop st.place s) st.place st.ref st.pending)))
