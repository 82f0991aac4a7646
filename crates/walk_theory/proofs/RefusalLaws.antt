-- A step from within its input refuses by the number of what stands first, or of what a unit does. Assumes nothing.
use mathlib.Core.Path.{◌≡◌, refl, sym, ap, subst, ◌∙◌}
use mathlib.Core.List.{List}
use Prim.Native.Nat.{ℕ, zero, suc, ◌+◌, ◌<◌}
use native.Mathlib.Omega.{arith}
use lib.ListN.{length, length-append, drop}
use Rattle.walk_theory.specs.Language.{First, none, bad, unit, Act, keep, clear, yield, print, outside, Language}
use Rattle.walk_theory.specs.Division.{Reads}
use Rattle.walk_theory.specs.Step.{State, Answer, element, cleared, printed, ended, refused, handing, printing, on_act, on_first, answer_by, answer, step}
use Rattle.walk_theory.specs.Trace.{Within}
use Rattle.walk_theory.proofs.TurnLaws.{step_within}

-- a refusal's number is one of Q
abbrev pub Says : {R E P : Type 0} → (ℕ → Type 0) → Answer R E P → Type 0
Says Q (element e st) = Unit
Says Q (cleared st) = Unit
Says Q (printed m q st) = Unit
Says Q (ended st) = Unit
Says Q (refused m p st) = Q m

says_handed : {R E P : Type 0} (Q : ℕ → Type 0) (g : State R) (a : Answer R E P) → Says Q a → Says Q (handing g a)
unfolding handing
says_handed Q g (element e st) m = tt
says_handed Q g (cleared st) m = tt
says_handed Q g (printed n q st) m = tt
says_handed Q g (ended st) m = tt
says_handed Q g (refused n p st) m = m

-- Q holds of the number of every fault, and of every number outside its range
module _ (L : Language) (reads : Reads L) (Q : ℕ → Type 0) (faulty : (s : List ℕ) (n : ℕ) → L.first s ≡ bad n → Q n)
    (beyond : (r : L.R) (u : L.U) (rest : List ℕ) (n : ℕ) → L.Stands u rest → L.act r u ≡ outside n → Q n) where
  open L use {U, R, E, P, bytes, first, act}

  says_print : (q : P) (a : Answer R E P) (next : ℕ) (r : R) (n : ℕ) → Says Q a → Says Q (printing L q a next r n)
  says_print q a next r zero m = m
  says_print q a next r (suc n) m = tt

  says_act : (go : ℕ → R → Answer R E P) (a : Act R E P) (u : U) (at : ℕ) (r : R) (n : ℕ) → ((k : ℕ) → a ≡ outside k → Q k)
      → ((r' : R) → Says Q (go (at + length (bytes u)) r')) → Says Q (on_act L go a u at r n)
  says_act go (keep r') u at r n out again = again r'
  says_act go (clear r') u at r n out again = tt
  says_act go (yield e) u at r n out again = tt
  says_act go (print q) u at r n out again = says_print q (go (at + length (bytes u)) r) (at + length (bytes u)) r n (again r)
  says_act go (outside j) u at r n out again = out j refl

  says_answer : (k : ℕ) (rest : List ℕ) (at : ℕ) (r : R) (n : ℕ) → length rest < k → Says Q (answer_by L k rest at r n)
  says_answer zero rest at r n h = absurd (omega arith)
  says_answer (suc k) rest at r n h = go (λ rest' at' r' b. says_answer k rest' at' r' n b) (first rest) refl
    where
      go : ((rest' : List ℕ) (at' : ℕ) (r' : R) → length rest' < k → Says Q (answer_by L k rest' at' r' n))
          → (o : First U) → first rest ≡ o → Says Q (on_first L (λ rest' at' r'. answer_by L k rest' at' r' n) o at r n)
      go again none e = tt
      go again (bad j) e = faulty rest j e
      go again (unit u rest') e =
          let w = reads.sound rest u rest' e in
          let b : length rest ≡ length (bytes u) + length rest' = ap length w.0 ∙ length-append (bytes u) rest' in
          let x = w.2 in
          says_act (λ at' r'. answer_by L k rest' at' r' n) (act r u) u at r n (λ j f. beyond r u rest' j w.1 f)
          (λ r'. again rest' (at + length (bytes u)) r' (omega arith))

  pub says_step : (s : List ℕ) (st : State R) → Within s st → Says Q (step L s st)
  unfolding answer
  says_step s st w =
      let t = drop st.place s in
      subst (Says Q) (sym (step_within L s st w.short w.inside w.counted))
      (says_handed Q st (answer L t st.place st.ref st.pending) (says_answer (suc (length t)) t st.place st.ref st.pending (omega arith)))
