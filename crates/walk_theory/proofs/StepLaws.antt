-- A walk has one course; what a refusal hands back matters to none; and the step at a place is what stands first there.
-- Assumes nothing.
use mathlib.Core.Path.{◌≡◌, refl, sym, ap, ◌∙◌}
use mathlib.Core.List.{List, ◌++◌, append_assoc}
use Prim.Native.Nat.{ℕ, zero, suc, ◌≤◌, ◌<◌}
use native.Mathlib.Omega.{arith}
use lib.ListN.{length, length-append, drop}
use lib.Seq.{drop-append_seam}
use borrow.Author.Tests.{le-ltb}
use Rattle.walk_theory.specs.Language.{First, none, bad, unit, Act, Language}
use Rattle.elements.specs.Given.{longest}
use Rattle.walk_theory.specs.Step.{State, state, Answer, element, cleared, printed, ended, refused, on_act, on_first, answer_by, answer, handing, step}
use Rattle.walk_theory.specs.Reach.{Final, Then, on_from, over, then, Reach, stop, go_on}
use Rattle.walk_theory.specs.Division.{Reads}

module _ (L : Language) where
  open L use {R, E, P}

  -- ---- a walk from a state has one course and one end
  over≢on : (f : Final) (st : State R) → ◌≡◌ {A = Then R} (over f) (on_from st) → ⊥
  over≢on f st e = let z : ◌≡◌ {A = ℕ} 0 1 = cc in omega arith

  pub one_walk : {s : List ℕ} {st st' : State R} {xs ys : List (Answer R E P)} {f g : Final} → st ≡ st' → Reach L s st xs f → Reach L s st' ys g → (xs ≡ ys) × (f ≡ g)
  one_walk {s} q (stop {f} e) (stop {f = g} e') = let h = ap (λ x. then (step L s x)) q in (refl, cc)
  one_walk {s} q (stop {f} e) (go_on {st' = t} a b c) = absurd (over≢on f t (sym e ∙ ap (λ x. then (step L s x)) q ∙ ap then a ∙ b))
  one_walk {s} q (go_on {st' = t} a b c) (stop {f} e) = absurd (over≢on f t (sym e ∙ ap (λ x. then (step L s x)) (sym q) ∙ ap then a ∙ b))
  one_walk {s} q (go_on {st' = t} {a = x} a b c) (go_on {st' = t'} {a = y} a' b' c') =
      let k : x ≡ y = sym a ∙ ap (step L s) q ∙ a' in
      let h = ap then k in
      let t≡t' : t ≡ t' = cc in
      let w = one_walk t≡t' c c' in
      let v = w.0 in
      (cc, w.1)

  -- ---- what a refusal hands back matters to no walk
  then_handing : (g : State R) (a : Answer R E P) → then (handing g a) ≡ then a
  unfolding handing
  then_handing g (element e st) = refl
  then_handing g (cleared st) = refl
  then_handing g (printed n q st) = refl
  then_handing g (ended st) = refl
  then_handing g (refused n p st) = refl

  handing_on : (g st : State R) (a : Answer R E P) → then a ≡ on_from st → handing g a ≡ a
  unfolding handing
  handing_on g st (element e q) h = refl
  handing_on g st (cleared q) h = refl
  handing_on g st (printed n j q) h = refl
  handing_on g st (ended q) h = absurd (over≢on _ _ h)
  handing_on g st (refused n p q) h = absurd (over≢on _ _ h)

  -- two states whose steps find the same answer reach the same end by the same answers
  pub reach_as : {s : List ℕ} {st st' : State R} {xs : List (Answer R E P)} {f : Final} (a : Answer R E P) → step L s st ≡ handing st a → step L s st' ≡ handing st' a → Reach L s st' xs f → Reach L s st xs f
  reach_as {st} {st'} a p q (stop e) = stop (ap then p ∙ then_handing st a ∙ sym (then_handing st' a) ∙ sym (ap then q) ∙ e)
  reach_as {st} {st'} a p q (go_on {st' = t} {a = b} e h c) =
      let k = sym (then_handing st' a) ∙ ap then (sym q ∙ e) ∙ h in
      go_on (p ∙ handing_on st t a k ∙ sym (handing_on st' t a k) ∙ sym q ∙ e) h c

-- a place of s with no more pending than bytes before it
pub record At (s pre rest : List ℕ) (n : ℕ) : Type 0 where
  pub whole : s ≡ pre ++ rest
  pub few : n ≤ length pre

module _ (L : Language) (reads : Reads L) where
  open L use {U, R, E, P, bytes, first, act, Stands}

  -- what follows the unit that stands first is shorter
  first_same : (rest : List ℕ) (at : ℕ) (r : R) (n : ℕ) (f g : List ℕ → ℕ → R → Answer R E P) → ((rest' : List ℕ) → length rest' < length rest → (at' : ℕ) (r' : R) → f rest' at' r' ≡ g rest' at' r')
      → on_first L f (first rest) at r n ≡ on_first L g (first rest) at r n
  first_same rest at r n f g h = go (first rest) refl
    where
      go : (o : First U) → first rest ≡ o → on_first L f o at r n ≡ on_first L g o at r n
      go none e = refl
      go (bad j) e = refl
      go (unit u rest') e =
          let w = reads.sound rest u rest' e in
          let b : length rest' < length rest = omega (arith, ap length w.0, length-append (bytes u) rest') in
          λ i. on_act L (λ at' r'. h rest' b at' r' i) (act r u) u at r n

  -- fuel enough is enough
  same_answer : (k m : ℕ) (rest : List ℕ) (at : ℕ) (r : R) (n : ℕ) → length rest < k → length rest < m → answer_by L k rest at r n ≡ answer_by L m rest at r n
  same_answer zero m rest at r n h h' = absurd (omega arith)
  same_answer (suc k) zero rest at r n h h' = absurd (omega arith)
  same_answer (suc k) (suc m) rest at r n h h' = first_same rest at r n _ _ (λ rest' b at' r'. same_answer k m rest' at' r' n (omega arith) (omega arith))

  -- an answer unrolled: the unit that stands first, and the answer after it
  pub answer_first : (rest : List ℕ) (at : ℕ) (r : R) (n : ℕ) → answer L rest at r n ≡ on_first L (λ rest' at' r'. answer L rest' at' r' n) (first rest) at r n
  unfolding answer
  answer_first rest at r n = first_same rest at r n _ _ (λ rest' b at' r'. same_answer (length rest) (suc (length rest')) rest' at' r' n b (omega arith))

  pub nonempty : (u : U) (rest : List ℕ) → Stands u rest → 0 < length (bytes u)
  nonempty u rest st = (reads.sound (bytes u ++ rest) u rest (reads.finds u rest st)).2

  module _ (s : List ℕ) (short : length s ≤ longest) where
    -- the step there is the answer from there on
    pub step_at : (pre rest : List ℕ) (r : R) (n : ℕ) → At s pre rest n → step L s (state (length pre) r n) ≡ handing (state (length pre) r n) (answer L rest (length pre) r n)
    unfolding step
    step_at pre rest r n w =
        let l = ap length w.whole ∙ length-append pre rest in
        simp (le-ltb longest (length s) short, le-ltb (length s) (length pre) (omega arith), le-ltb (length pre) n w.few, ap (drop (length pre)) w.whole ∙ drop-append_seam pre rest)

    pub further : (pre : List ℕ) (u : U) (rest : List ℕ) (n m : ℕ) → At s pre (bytes u ++ rest) n → m ≤ length (pre ++ bytes u) → At s (pre ++ bytes u) rest m
    further pre u rest n m w h = record { whole = w.whole ∙ sym (append_assoc pre (bytes u) rest); few = h }

    -- the step by what stands first there
    pub step_first : (pre rest : List ℕ) (r : R) (n : ℕ) (o : First U) → At s pre rest n → first rest ≡ o
        → step L s (state (length pre) r n) ≡ handing (state (length pre) r n) (on_first L (λ rest' at' r'. answer L rest' at' r' n) o (length pre) r n)
    step_first pre rest r n o w e =
        step_at pre rest r n w ∙ ap (handing (state (length pre) r n)) (answer_first rest (length pre) r n ∙ ap (λ (x : First U). on_first L (λ rest' at' r'. answer L rest' at' r' n) x (length pre) r n) e)

    -- the step at a unit is what the unit does, or the answer after it
    pub step_act : (pre : List ℕ) (u : U) (rest : List ℕ) (r : R) (n : ℕ) (a : Act R E P) → At s pre (bytes u ++ rest) n → Stands u rest → act r u ≡ a
        → step L s (state (length pre) r n) ≡ handing (state (length pre) r n) (on_act L (λ at' r'. answer L rest at' r' n) a u (length pre) r n)
    step_act pre u rest r n a w st h =
        step_first pre (bytes u ++ rest) r n (unit u rest) w (reads.finds u rest st)
        ∙ ap (λ (x : Act R E P). handing (state (length pre) r n) (on_act L (λ at' r'. answer L rest at' r' n) x u (length pre) r n)) h
