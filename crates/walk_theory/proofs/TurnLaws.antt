-- A step as code takes it: the tests before its loop, and one turn of the loop, where the reading of what stands at a
-- place decides. Assumes nothing.
use mathlib.Core.Path.{◌≡◌, refl, sym, ap, subst, ◌∙◌}
use mathlib.Core.List.{List}
use Prim.Native.Nat.{ℕ, zero, suc, ◌+◌, ◌-◌, ◌<◌, ◌≤◌}
use native.Mathlib.Omega.{arith}
use lib.ListN.{length, length-append, length-drop, take, drop}
use lib.Seq.{drop-append_seam, drop-drop, take_all}
use borrow.Author.Tests.{lt-ltb, le-ltb}
use Rattle.walk_theory.specs.Language.{First, none, bad, unit, Act, keep, clear, yield, print, outside, Language}
use Rattle.walk_theory.specs.Division.{Reads}
use Rattle.elements.specs.Given.{longest}
use Rattle.walk_theory.specs.Step.{State, state, Answer, element, cleared, printed, ended, refused, handing, printing, on_act, on_first, answer, step}
use Rattle.walk_theory.specs.Reading.{Reading, nothing, fault, passes, clears_to, gives, asks_print, did, reading, reading_of, moved}
use Rattle.walk_theory.proofs.StepLaws.{answer_first}

module _ (L : Language) where
  open L use {U, R, E, P, bytes}

  -- what the loop makes of a reading at its place, g being the state that was given: an answer, or the walk from what
  -- follows
  abbrev pub on_reading : State R → List ℕ → ℕ → R → ℕ → Reading R E P → Answer R E P
  on_reading g rest at r n nothing = ended (state at r n)
  on_reading g rest at r n (fault k) = refused k at g
  on_reading g rest at r n (passes size v) = handing g (answer L (drop size rest) (at + size) v n)
  on_reading g rest at r n (clears_to size v) = cleared (state (at + size) v 0)
  on_reading g rest at r n (gives size e) = element e (state (at + size) r (suc n))
  on_reading g rest at r n (asks_print size q) = printing L q (handing g (answer L (drop size rest) (at + size) r n)) (at + size) r n

  handing_printing : (g : State R) (q : P) (a : Answer R E P) (at : ℕ) (r : R) (n : ℕ) → handing g (printing L q a at r n) ≡ printing L q (handing g a) at r n
  unfolding handing
  handing_printing g q a at r zero = refl
  handing_printing g q a at r (suc n) = refl

  turn_act : (g : State R) (rest rest' : List ℕ) (at : ℕ) (r : R) (n : ℕ) (u : U) (a : Act R E P) → drop (length (bytes u)) rest ≡ rest'
      → handing g (on_act L (λ at' r'. answer L rest' at' r' n) a u at r n) ≡ on_reading g rest at r n (moved L at (did (length (bytes u)) a))
  unfolding handing
  turn_act g rest rest' at r n u (keep v) e = ap (λ (q : List ℕ). handing g (answer L q (at + length (bytes u)) v n)) (sym e)
  turn_act g rest rest' at r n u (clear v) e = refl
  turn_act g rest rest' at r n u (yield d) e = refl
  turn_act g rest rest' at r n u (print q) e =
      handing_printing g q (answer L rest' (at + length (bytes u)) r n) (at + length (bytes u)) r n
      ∙ ap (λ (t : List ℕ). printing L q (handing g (answer L t (at + length (bytes u)) r n)) (at + length (bytes u)) r n) (sym e)
  turn_act g rest rest' at r n u (outside k) e = refl

  -- a unit lies in the m bytes that it was read from
  abbrev pub Fits : ℕ → Reading R E P → Type 0
  Fits m nothing = Unit
  Fits m (fault k) = Unit
  Fits m (passes size v) = (0 < size) × (size ≤ m)
  Fits m (clears_to size v) = (0 < size) × (size ≤ m)
  Fits m (gives size e) = (0 < size) × (size ≤ m)
  Fits m (asks_print size q) = (0 < size) × (size ≤ m)

  fits_act : (m at size : ℕ) (a : Act R E P) → (0 < size) × (size ≤ m) → Fits m (moved L at (did size a))
  fits_act m at size (keep v) h = h
  fits_act m at size (clear v) h = h
  fits_act m at size (yield d) h = h
  fits_act m at size (print q) h = h
  fits_act m at size (outside j) h = tt

module _ (L : Language) (reads : Reads L) where
  open L use {U, R, E, P, bytes, first, act}

  turn : (g : State R) (rest : List ℕ) (at : ℕ) (r : R) (n : ℕ) → handing g (answer L rest at r n) ≡ on_reading L g rest at r n (moved L at (reading_of L rest r))
  unfolding handing
  turn g rest at r n = ap (handing g) (answer_first L reads rest at r n) ∙ go (first rest) refl
    where
      go : (o : First U) → first rest ≡ o → handing g (on_first L (λ rest' at' r'. answer L rest' at' r' n) o at r n) ≡ on_reading L g rest at r n (moved L at (reading L r o))
      go none e = refl
      go (bad k) e = refl
      go (unit u rest') e =
          let w = reads.sound rest u rest' e in
          turn_act L g rest rest' at r n u (act r u) (ap (drop (length (bytes u))) w.0 ∙ drop-append_seam (bytes u) rest')

  fits : (rest : List ℕ) (at : ℕ) (r : R) → Fits L (length rest) (moved L at (reading_of L rest r))
  fits rest at r = go (first rest) refl
    where
      go : (o : First U) → first rest ≡ o → Fits L (length rest) (moved L at (reading L r o))
      go none e = tt
      go (bad k) e = tt
      go (unit u rest') e =
          let w = reads.sound rest u rest' e in
          fits_act L (length rest) at (length (bytes u)) (act r u) (w.2, omega (arith, ap length w.0, length-append (bytes u) rest'))

  -- ---- as a loop has them: q is the reading of what stands from at
  module _ (s : List ℕ) (at : ℕ) (r : R) (q : Reading R E P) (e : q ≡ moved L at (reading_of L (take (length s - at) (drop at s)) r)) where
    pub reading_here : q ≡ moved L at (reading_of L (drop at s) r)
    reading_here = e ∙ ap (λ (t : List ℕ). moved L at (reading_of L t r)) (take_all (length s - at) (drop at s) (omega (arith, length-drop at s)))

    pub turn_at : (g : State R) (n : ℕ) → handing g (answer L (drop at s) at r n) ≡ on_reading L g (drop at s) at r n q
    turn_at g n = turn g (drop at s) at r n ∙ ap (on_reading L g (drop at s) at r n) (sym reading_here)

    pub fits_at : Fits L (length s - at) q
    fits_at = subst (λ (z : Reading R E P). Fits L (length s - at) z) (sym reading_here) (subst (λ (m : ℕ). Fits L m (moved L at (reading_of L (drop at s) r))) (length-drop at s) (fits (drop at s) at r))

module _ (L : Language) where
  open L use {R, E, P}

  -- the walk from at + size, as the loop's next turn has it
  pub pass_on : (g : State R) (s : List ℕ) (at size : ℕ) (v : R) (n : ℕ) → handing g (answer L (drop size (drop at s)) (at + size) v n) ≡ handing g (answer L (drop (at + size) s) (at + size) v n)
  pass_on g s at size v n = ap (λ (t : List ℕ). handing g (answer L t (at + size) v n)) (drop-drop size at s)

  pub print_none : (q : P) (a : Answer R E P) (at : ℕ) (r : R) (n : ℕ) → n ≤ 0 → printing L q a at r n ≡ a
  print_none q a at r zero h = refl
  print_none q a at r (suc n) h = absurd (omega arith)

  pub print_some : (q : P) (a : Answer R E P) (at : ℕ) (r : R) (n : ℕ) → 0 < n → printing L q a at r n ≡ printed n q (state at r 0)
  print_some q a at r zero h = absurd (omega arith)
  print_some q a at r (suc n) h = refl

  -- ---- before the loop
  module _ (s : List ℕ) (st : State R) where
    pub step_long : longest < length s → step L s st ≡ refused 14 0 st
    unfolding step
    step_long h = simp (lt-ltb 16777216 (length s) h)

    pub step_past : length s ≤ longest → length s < st.place → step L s st ≡ refused 16 st.place st
    unfolding step
    step_past g h = simp (le-ltb 16777216 (length s) g, lt-ltb (length s) st.place h)

    pub step_many : length s ≤ longest → st.place ≤ length s → st.place < st.pending → step L s st ≡ refused 16 st.place st
    unfolding step
    step_many g h k = simp (le-ltb 16777216 (length s) g, le-ltb (length s) st.place h, lt-ltb st.place st.pending k)

    pub step_within : length s ≤ longest → st.place ≤ length s → st.pending ≤ st.place → step L s st ≡ handing st (answer L (drop st.place s) st.place st.ref st.pending)
    unfolding step
    step_within g h k = simp (le-ltb 16777216 (length s) g, le-ltb (length s) st.place h, le-ltb st.place st.pending k)
