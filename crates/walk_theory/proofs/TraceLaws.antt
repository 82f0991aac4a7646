-- The whole walk without its fuel, how each answer moves it on, and that its outcome is that of any walk that reaches
-- an end. Assumes nothing.
use mathlib.Core.Path.{◌≡◌, refl, sym, ap, subst, ◌∙◌}
use mathlib.Core.Bool.{Bool, true, false, cond, ◌||◌}
use mathlib.Core.List.{List, [], ◌∷◌, ◌++◌, append_assoc, append-nil}
use Prim.Native.Nat.{ℕ, zero, suc, ◌+◌, ◌≤◌, ◌<◌}
use native.Mathlib.Omega.{arith}
use lib.Dec.{ltb}
use lib.ListN.{length, length-append, length-drop, drop}
use borrow.Author.Tests.{ltb-false}
use Rattle.walk_theory.specs.Language.{First, none, bad, unit, Act, keep, clear, yield, print, outside, Language}
use Rattle.walk_theory.specs.Division.{Reads}
use Rattle.walk_theory.specs.Labels.{Label}
use Rattle.elements.specs.Given.{longest}
use Rattle.walk_theory.specs.Step.{State, state, Answer, element, cleared, printed, ended, refused, handing, printing, on_act, on_first, answer_by, answer, step}
use Rattle.walk_theory.specs.Reach.{Final, Then, on_from, over, then, Reach, stop, go_on, answered}
use Rattle.walk_theory.proofs.StepLaws.{step_first}
use Rattle.walk_theory.specs.Trace.{Trace, stops, refuses, yields, clears, prints, final, ending, Within, Goes, left, on_answer, steps, trace, labels_in, lead, after, outcome}

-- the answer of a step from the place `at` with n pending, `end` being the end of the input, moves on
abbrev pub Moves : {R E P : Type 0} → ℕ → ℕ → ℕ → Answer R E P → Type 0
Moves at end n (element e st) = (at < st.place) × (st.place ≤ end) × (st.pending ≡ suc n)
Moves at end n (cleared st) = (at < st.place) × (st.place ≤ end) × (st.pending ≡ 0)
Moves at end n (printed m q st) = (at < st.place) × (st.place ≤ end) × (st.pending ≡ 0) × (m ≡ n) × (0 < m)
Moves at end n (ended st) = (st.place ≡ end) × (st.pending ≡ n)
Moves at end n (refused m p st) = Unit

weaken : {R E P : Type 0} (a : Answer R E P) (at at' end end' n : ℕ) → at ≤ at' → end' ≡ end → Moves at' end' n a → Moves at end n a
weaken (element e st) at at' end end' n h k m = (omega arith, omega arith, m.2)
weaken (cleared st) at at' end end' n h k m = (omega arith, omega arith, m.2)
weaken (printed j q st) at at' end end' n h k m = (omega arith, omega arith, m.2, m.3, m.4)
weaken (ended st) at at' end end' n h k m = (m.0 ∙ k, m.1)
weaken (refused j p st) at at' end end' n h k m = m

goes_handed : {R E P : Type 0} (s : List ℕ) (st : State R) (a : Answer R E P) → Within s st → Moves st.place (length s) st.pending a → Goes s st (handing st a)
unfolding handing
goes_handed s st (element e st') w m = (w, m.0, m.1, m.2)
goes_handed s st (cleared st') w m = (w, m.0, m.1, m.2)
goes_handed s st (printed n q st') w m = (w, m.0, m.1, m.2, m.3, m.4)
goes_handed s st (ended st') w m = (w, m.0, m.1)
goes_handed s st (refused n p st') w m = tt

-- the elements that a trace begins with do not change its end
pub final_after : {E P : Type 0} (t : Trace E P) → final (after t) ≡ final t
final_after (stops n) = refl
final_after (refuses n k) = refl
final_after (yields e t) = final_after t
final_after (clears t) = refl
final_after (prints n q t) = refl

module _ (L : Language) (reads : Reads L) where
  open L use {U, R, E, P, bytes, first, act, shifted}

  moves_print : (q : P) (a : Answer R E P) (at next end : ℕ) (r : R) (n : ℕ) → at < next → next ≤ end → Moves at end n a → Moves at end n (printing L q a next r n)
  moves_print q a at next end r zero h k m = m
  moves_print q a at next end r (suc n) h k m = (h, k, refl, refl, omega arith)

  moves_act : (go : ℕ → R → Answer R E P) (a : Act R E P) (u : U) (at end : ℕ) (r : R) (n : ℕ) → 0 < length (bytes u) → at + length (bytes u) ≤ end
      → ((at' : ℕ) (r' : R) → at' ≡ at + length (bytes u) → Moves at end n (go at' r')) → Moves at end n (on_act L go a u at r n)
  moves_act go (keep r') u at end r n h k again = again (at + length (bytes u)) r' refl
  moves_act go (clear r') u at end r n h k again = (omega arith, k, refl)
  moves_act go (yield e) u at end r n h k again = (omega arith, k, refl)
  moves_act go (print q) u at end r n h k again = moves_print q (go (at + length (bytes u)) r) at (at + length (bytes u)) end r n (omega arith) k (again (at + length (bytes u)) r refl)
  moves_act go (outside j) u at end r n h k again = tt

  moves_answer : (k : ℕ) (rest : List ℕ) (at : ℕ) (r : R) (n : ℕ) → Moves at (at + length rest) n (answer_by L k rest at r n)
  moves_answer zero rest at r n = tt
  moves_answer (suc k) rest at r n = go (λ rest' at' r'. moves_answer k rest' at' r' n) (first rest) refl
    where
      go : ((rest' : List ℕ) (at' : ℕ) (r' : R) → Moves at' (at' + length rest') n (answer_by L k rest' at' r' n))
          → (o : First U) → first rest ≡ o → Moves at (at + length rest) n (on_first L (λ rest' at' r'. answer_by L k rest' at' r' n) o at r n)
      go again none e = (omega (arith, ap length (reads.empty rest e)), refl)
      go again (bad j) e = tt
      go again (unit u rest') e =
          let w = reads.sound rest u rest' e in
          let b : length rest ≡ length (bytes u) + length rest' = ap length w.0 ∙ length-append (bytes u) rest' in
          moves_act (λ at' r'. answer_by L k rest' at' r' n) (act r u) u at (at + length rest) r n w.2 (omega arith)
          (λ at' r' q. weaken (answer_by L k rest' at' r' n) at at' (at + length rest) (at' + length rest') n (omega arith) (omega arith) (again rest' at' r'))

  pub moves_from : (s : List ℕ) (st : State R) → st.place ≤ length s → Moves st.place (length s) st.pending (answer L (drop st.place s) st.place st.ref st.pending)
  unfolding answer
  moves_from s st h =
      let t = drop st.place s in
      weaken (answer L t st.place st.ref st.pending) st.place st.place (length s) (st.place + length t) st.pending (omega arith) (omega (arith, length-drop st.place s)) (moves_answer (suc (length t)) t st.place st.ref st.pending)

  goes_by_tests : (a b c : Bool) (s : List ℕ) (st : State R) → ltb longest (length s) ≡ a → ltb (length s) st.place ≡ b → ltb st.place st.pending ≡ c
      → Goes s st (cond a (refused 14 0 st) (cond (b || c) (refused 16 st.place st) (handing st (answer L (drop st.place s) st.place st.ref st.pending))))
  goes_by_tests true b c s st p q r = tt
  goes_by_tests false true c s st p q r = tt
  goes_by_tests false false true s st p q r = tt
  goes_by_tests false false false s st p q r =
      let w : Within s st = record { short = ltb-false _ _ p; inside = ltb-false _ _ q; counted = ltb-false _ _ r } in
      goes_handed s st (answer L (drop st.place s) st.place st.ref st.pending) w (moves_from s st w.inside)

  -- every answer but a refusal comes from within the input, and moves on
  pub goes_step : (s : List ℕ) (st : State R) → Goes s st (step L s st)
  unfolding step
  goes_step s st = goes_by_tests (ltb longest (length s)) (ltb (length s) st.place) (ltb st.place st.pending) s st refl refl refl

  same_answers : (go go' : State R → Trace E P) (s : List ℕ) (st : State R) (a : Answer R E P) → Goes s st a → ((st' : State R) → left s st' < left s st → go st' ≡ go' st') → on_answer L go a ≡ on_answer L go' a
  same_answers go go' s st (element e st') m h = ap (yields e) (h st' (omega arith))
  same_answers go go' s st (cleared st') m h = ap clears (h st' (omega arith))
  same_answers go go' s st (printed n q st') m h = ap (prints n q) (h st' (omega arith))
  same_answers go go' s st (ended st') m h = refl
  same_answers go go' s st (refused n p st') m h = refl

  same_steps : (k m : ℕ) (s : List ℕ) (st : State R) → left s st < k → left s st < m → steps L k s st ≡ steps L m s st
  same_steps zero m s st h h' = absurd (omega arith)
  same_steps (suc k) zero s st h h' = absurd (omega arith)
  same_steps (suc k) (suc m) s st h h' = same_answers (λ st'. steps L k s st') (λ st'. steps L m s st') s st (step L s st) (goes_step s st) (λ st' b. same_steps k m s st' (omega arith) (omega arith))

  -- the whole walk is the first step, and the whole walk from the state that it returned
  pub trace_is : (s : List ℕ) (st : State R) → trace L s st ≡ on_answer L (trace L s) (step L s st)
  unfolding trace
  trace_is s st = same_answers (λ st'. steps L (left s st) s st') (λ st'. steps L (suc (left s st')) s st') s st (step L s st) (goes_step s st) (λ st' b. same_steps (left s st) (suc (left s st')) s st' b (omega arith))

  -- as a loop over steps has them: a is what the step answered
  pub trace_by : (s : List ℕ) (st : State R) (a : Answer R E P) → a ≡ step L s st → trace L s st ≡ on_answer L (trace L s) a
  trace_by s st a e = trace_is s st ∙ ap (on_answer L (trace L s)) (sym e)

  pub goes_by : (s : List ℕ) (st : State R) (a : Answer R E P) → a ≡ step L s st → Goes s st a
  goes_by s st a e = subst (λ (x : Answer R E P). Goes s st x) (sym e) (goes_step s st)

  -- "The end prints nothing, and is answered again and again", with the same state
  pub ended_again : (s : List ℕ) (st st' : State R) → step L s st ≡ ended st' → step L s st' ≡ ended st'
  unfolding handing
  ended_again s st st' e =
      let g = goes_by s st (ended st') (sym e) in
      let w = g.0 in
      let c : st' ≡ state (length s) st'.ref st'.pending = ap (λ (x : ℕ). state x st'.ref st'.pending) g.1 in
      ap (step L s) c ∙ step_first L reads s w.short s [] st'.ref st'.pending none (record { whole = sym (append-nil s); few = omega (arith, g.2) }) reads.at_end ∙ ap ended (sym c)

  -- ---- a walk that reaches an end is the trace
  over≢on : {f : Final} {st : State R} → ◌≡◌ {A = Then R} (over f) (on_from st) → ⊥
  over≢on e = let z : ◌≡◌ {A = ℕ} 0 1 = cc in omega arith

  over_final : (s : List ℕ) (a : Answer R E P) (f : Final) → then a ≡ over f → final (on_answer L (trace L s) a) ≡ f
  over_final s (element e st) f h = absurd (over≢on (sym h))
  over_final s (cleared st) f h = absurd (over≢on (sym h))
  over_final s (printed n q st) f h = absurd (over≢on (sym h))
  over_final s (ended st) f h = cc
  over_final s (refused n p st) f h = cc

  on_final : (s : List ℕ) (a : Answer R E P) (st : State R) → then a ≡ on_from st → final (on_answer L (trace L s) a) ≡ final (trace L s st)
  on_final s (element e q) st h = let k : q ≡ st = cc in ap (λ (x : State R). final (trace L s x)) k
  on_final s (cleared q) st h = let k : q ≡ st = cc in ap (λ (x : State R). final (trace L s x)) k
  on_final s (printed n p q) st h = let k : q ≡ st = cc in ap (λ (x : State R). final (trace L s x)) k
  on_final s (ended q) st h = absurd (over≢on h)
  on_final s (refused n p q) st h = absurd (over≢on h)

  reach_final : {s : List ℕ} {st : State R} {xs : List (Answer R E P)} {f : Final} → Reach L s st xs f → final (trace L s st) ≡ f
  reach_final {s} {st} (stop {f} e) = ap final (trace_is s st) ∙ over_final s (step L s st) f e
  reach_final {s} {st} (go_on {st'} {a} e h c) = ap final (trace_by s st a (sym e)) ∙ on_final s a st' h ∙ reach_final c

  module _ (F : Type 0) (frame : List ℕ → E → F) where
    over_labels : (s : List ℕ) (p : List F) (a : Answer R E P) (f : Final) → then a ≡ over f → labels_in L F frame s p (on_answer L (trace L s) a) ≡ []
    over_labels s p (element e st) f h = absurd (over≢on (sym h))
    over_labels s p (cleared st) f h = absurd (over≢on (sym h))
    over_labels s p (printed n q st) f h = absurd (over≢on (sym h))
    over_labels s p (ended st) f h = refl
    over_labels s p (refused n k st) f h = refl

    on_labels : (s : List ℕ) (p : List F) (a : Answer R E P) (st : State R) (xs : List (Answer R E P)) → then a ≡ on_from st
        → ((p' : List F) → labels_in L F frame s p' (trace L s st) ≡ answered L F frame s p' xs) → labels_in L F frame s p (on_answer L (trace L s) a) ≡ answered L F frame s p (a ∷ xs)
    on_labels s p (element e q) st xs h again = let k : q ≡ st = cc in ap (λ (x : State R). labels_in L F frame s (p ++ (frame s e ∷ [])) (trace L s x)) k ∙ again (p ++ (frame s e ∷ []))
    on_labels s p (cleared q) st xs h again = let k : q ≡ st = cc in ap (λ (x : State R). labels_in L F frame s [] (trace L s x)) k ∙ again []
    on_labels s p (printed n o q) st xs h again =
        let k : q ≡ st = cc in ap (λ (ls : List (Label F P)). record { count = n; says = o; frames = p } ∷ ls) (ap (λ (x : State R). labels_in L F frame s [] (trace L s x)) k ∙ again [])
    on_labels s p (ended q) st xs h again = absurd (over≢on h)
    on_labels s p (refused n j q) st xs h again = absurd (over≢on h)

    reach_labels : {s : List ℕ} {st : State R} {xs : List (Answer R E P)} {f : Final} → Reach L s st xs f → (p : List F) → labels_in L F frame s p (trace L s st) ≡ answered L F frame s p xs
    reach_labels {s} {st} (stop {f} e) p = ap (labels_in L F frame s p) (trace_is s st) ∙ over_labels s p (step L s st) f e
    reach_labels {s} {st} (go_on {st'} {a} {xs} e h c) p = ap (labels_in L F frame s p) (trace_by s st a (sym e)) ∙ on_labels s p a st' xs h (reach_labels c)

    -- what the walk lists is what any walk that reaches an end has answered
    pub reach_outcome : {s : List ℕ} {st : State R} {xs : List (Answer R E P)} {f : Final} → Reach L s st xs f → outcome L F frame s st ≡ ending f (answered L F frame s [] xs)
    reach_outcome {s} {st} {xs} {f} c = ap (λ (x : Final). ending x (labels_in L F frame s [] (trace L s st))) (reach_final c) ∙ ap (ending f) (reach_labels c [])

    -- ---- the elements that a trace begins with, and what follows them
    pub labels_after : (s : List ℕ) (p : List F) (t : Trace E P) → labels_in L F frame s p t ≡ labels_in L F frame s (p ++ lead L F frame s t) (after t)
    labels_after s p (stops n) = refl
    labels_after s p (refuses n k) = refl
    labels_after s p (yields e t) = labels_after s (p ++ (frame s e ∷ [])) t ∙ ap (λ (q : List F). labels_in L F frame s q (after t)) (append_assoc p (frame s e ∷ []) (lead L F frame s t))
    labels_after s p (clears t) = refl
    labels_after s p (prints n o t) = ap (λ (q : List F). record { count = n; says = o; frames = q } ∷ labels_in L F frame s [] t) (sym (append-nil p))

  -- ---- an element answered comes from a unit that the walk has passed
  module _ (Q : ℕ → E → Type 0) (pays : (r : R) (u : U) (e : E) (at : ℕ) → act r u ≡ yield e → Q (length (bytes u)) (shifted at e)) where
    -- so many bytes from the place `at` on, of which Q holds with the element
    abbrev pub Paid : ℕ → Answer R E P → Type 0
    Paid at (element e st) = (k : ℕ) × (at + k ≤ st.place) × Q k e
    Paid at (cleared st) = Unit
    Paid at (printed n q st) = Unit
    Paid at (ended st) = Unit
    Paid at (refused n p st) = Unit

    paid_later : (a : Answer R E P) (at at' : ℕ) → at ≤ at' → Paid at' a → Paid at a
    paid_later (element e st) at at' h m = (m.0, omega (arith, m.1), m.2)
    paid_later (cleared st) at at' h m = m
    paid_later (printed n q st) at at' h m = m
    paid_later (ended st) at at' h m = m
    paid_later (refused n p st) at at' h m = m

    paid_print : (q : P) (a : Answer R E P) (at next : ℕ) (r : R) (n : ℕ) → Paid at a → Paid at (printing L q a next r n)
    paid_print q a at next r zero m = m
    paid_print q a at next r (suc n) m = tt

    paid_act : (go : ℕ → R → Answer R E P) (a : Act R E P) (u : U) (at : ℕ) (r : R) (n : ℕ) → act r u ≡ a → ((r' : R) → Paid at (go (at + length (bytes u)) r')) → Paid at (on_act L go a u at r n)
    paid_act go (keep r') u at r n h again = again r'
    paid_act go (clear r') u at r n h again = tt
    paid_act go (yield e) u at r n h again = (length (bytes u), omega arith, pays r u e at h)
    paid_act go (print q) u at r n h again = paid_print q (go (at + length (bytes u)) r) at (at + length (bytes u)) r n (again r)
    paid_act go (outside j) u at r n h again = tt

    paid_answer : (k : ℕ) (rest : List ℕ) (at : ℕ) (r : R) (n : ℕ) → Paid at (answer_by L k rest at r n)
    paid_answer zero rest at r n = tt
    paid_answer (suc k) rest at r n = go (λ rest' at' r'. paid_answer k rest' at' r' n) (first rest)
      where
        go : ((rest' : List ℕ) (at' : ℕ) (r' : R) → Paid at' (answer_by L k rest' at' r' n)) → (o : First U) → Paid at (on_first L (λ rest' at' r'. answer_by L k rest' at' r' n) o at r n)
        go again none = tt
        go again (bad j) = tt
        go again (unit u rest') =
            paid_act (λ at' r'. answer_by L k rest' at' r' n) (act r u) u at r n refl
            (λ r'. paid_later (answer_by L k rest' (at + length (bytes u)) r' n) at (at + length (bytes u)) (omega arith) (again rest' (at + length (bytes u)) r'))

    paid_handed : (g : State R) (at : ℕ) (a : Answer R E P) → Paid at a → Paid at (handing g a)
    unfolding handing
    paid_handed g at (element e st) m = m
    paid_handed g at (cleared st) m = m
    paid_handed g at (printed n q st) m = m
    paid_handed g at (ended st) m = m
    paid_handed g at (refused n p st) m = m

    paid_tests : (a b : Bool) (st : State R) (x : Answer R E P) → Paid st.place x → Paid st.place (cond a (refused 14 0 st) (cond b (refused 16 st.place st) x))
    paid_tests true b st x m = tt
    paid_tests false true st x m = tt
    paid_tests false false st x m = m

    pub paid_step : (s : List ℕ) (st : State R) → Paid st.place (step L s st)
    unfolding step answer
    paid_step s st =
        let t = drop st.place s in
        paid_tests (ltb longest (length s)) (ltb (length s) st.place || ltb st.place st.pending) st (handing st (answer L t st.place st.ref st.pending))
        (paid_handed st st.place (answer L t st.place st.ref st.pending) (paid_answer (suc (length t)) t st.place st.ref st.pending))
