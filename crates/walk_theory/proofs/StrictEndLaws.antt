-- The end of a walk is what its units say, one after the other (`final_is`); of a strict walk it is the first objection
-- to a unit that the plain walk has read, or the plain walk's end (`strict_final`). Assumes nothing.
use mathlib.Core.Path.{◌≡◌, refl, sym, ap, subst, ◌∙◌}
use mathlib.Core.Bool.{cond}
use mathlib.Core.List.{List, [], ◌∷◌}
use mathlib.Core.Option.{Option, none, some}
use Prim.Native.Nat.{ℕ, zero, suc, ◌+◌, ◌<◌, ◌≤◌}
use native.Mathlib.Omega.{arith}
use lib.Dec.{ltb}
use lib.ListN.{length, length-append, length-drop, drop}
use lib.Seq.{drop-append_seam, drop-drop}
use borrow.Author.Tests.{lt-ltb, le-ltb}
use Rattle.elements.specs.Given.{longest}
use Rattle.walk_theory.specs.Language as language
use Rattle.walk_theory.specs.Language.{First, bad, unit, Act, keep, clear, yield, print, outside, Language}
use Rattle.walk_theory.specs.Division.{Reads}
use Rattle.walk_theory.specs.Step.{State, state, Answer, element, cleared, printed, ended, refused, handing, on_act, on_first, answer}
use Rattle.walk_theory.specs.Reach.{Final, accepted, refusal}
use Rattle.walk_theory.specs.Trace.{trace, on_answer, final}
use Rattle.walk_theory.specs.Strict.{unless, strictly, ending_act, ending_first, ending_by, or_else, reached, objected_by, Ends}
use Rattle.walk_theory.proofs.StepLaws.{answer_first}
use Rattle.walk_theory.proofs.TraceLaws.{trace_is}
use Rattle.walk_theory.proofs.TurnLaws.{step_within}
use Rattle.walk_theory.proofs.DivisionLaws.{bad≢none}
use Rattle.walk_theory.proofs.StrictLaws.{strict_reads}

-- ---- the walk, by its units
module _ (L : Language) (reads : Reads L) (s : List ℕ) (short : length s ≤ longest) where
  open L use {U, R, E, P, bytes, first, act}

  -- the end of a walk that answers a and goes on
  abbrev end : Answer R E P → Final
  end a = final (on_answer L (trace L s) a)

  end_handed : (g : State R) (a : Answer R E P) → end (handing g a) ≡ end a
  unfolding handing
  end_handed g (element e st) = refl
  end_handed g (cleared st) = refl
  end_handed g (printed n q st) = refl
  end_handed g (ended st) = refl
  end_handed g (refused n p st) = refl

  -- at the place `at`, where rest stands
  record Here (rest : List ℕ) (at n : ℕ) : Type 0 where
    stands : drop at s ≡ rest
    inside : at ≤ length s
    few : n ≤ at

  end_here : (rest : List ℕ) (at : ℕ) (r : R) (n : ℕ) → Here rest at n → final (trace L s (state at r n)) ≡ end (answer L rest at r n)
  end_here rest at r n h =
      ap final (trace_is L reads s (state at r n)) ∙ ap end (step_within L s (state at r n) short h.inside h.few) ∙ end_handed (state at r n) (answer L (drop at s) at r n)
      ∙ ap (λ (t : List ℕ). end (answer L t at r n)) h.stands

  next : (rest : List ℕ) (at n : ℕ) (u : U) (rest' : List ℕ) (m : ℕ) → Here rest at n → first rest ≡ unit u rest' → m ≤ at + length (bytes u) → Here rest' (at + length (bytes u)) m
  next rest at n u rest' m h q l =
      let w = reads.sound rest u rest' q in
      record {
        stands = sym (drop-drop (length (bytes u)) at s) ∙ ap (drop (length (bytes u))) (h.stands ∙ w.0) ∙ drop-append_seam (bytes u) rest';
        inside = omega (arith, h.inside, length-drop at s, ap length (h.stands ∙ w.0), length-append (bytes u) rest');
        few = l;
      }

  ends : (k : ℕ) (rest : List ℕ) (at : ℕ) (r : R) (n : ℕ) → Here rest at n → length rest < k → end (answer L rest at r n) ≡ ending_by L k rest at r n
  ends zero rest at r n h l = absurd (omega arith)
  ends (suc k) rest at r n h l = ap end (answer_first L reads rest at r n) ∙ by (first rest) refl (λ rest' at' r' n' h' l'. ends k rest' at' r' n' h' l')
    where
      by : (o : First U) → first rest ≡ o → ((rest' : List ℕ) (at' : ℕ) (r' : R) (n' : ℕ) → Here rest' at' n' → length rest' < k → end (answer L rest' at' r' n') ≡ ending_by L k rest' at' r' n')
          → end (on_first L (λ rest' at' r'. answer L rest' at' r' n) o at r n) ≡ ending_first L (λ rest' at' r' n'. ending_by L k rest' at' r' n') o at r n
      by language.none q again = refl
      by (bad j) q again = refl
      by (unit u rest') q again = on (act r u) n refl
        where
          less : length rest' < k
          less = let w = reads.sound rest u rest' q in omega (arith, ap length w.0, length-append (bytes u) rest', w.2)

          from : (r' : R) (m : ℕ) → m ≤ at + length (bytes u) → final (trace L s (state (at + length (bytes u)) r' m)) ≡ ending_by L k rest' (at + length (bytes u)) r' m
          from r' m b = let h' = next rest at n u rest' m h q b in end_here rest' (at + length (bytes u)) r' m h' ∙ again rest' (at + length (bytes u)) r' m h' less

          on : (a : Act R E P) (m : ℕ) → m ≡ n → end (on_act L (λ at' r'. answer L rest' at' r' m) a u at r m) ≡ ending_act L (ending_by L k rest') a u at r m
          on (keep r') m e = again rest' (at + length (bytes u)) r' m (next rest at n u rest' m h q (omega (arith, h.few))) less
          on (clear r') m e = from r' 0 (omega arith)
          on (yield x) m e = from r (suc m) (omega (arith, h.few, (reads.sound rest u rest' q).2))
          on (print x) zero e = again rest' (at + length (bytes u)) r 0 (next rest at n u rest' 0 h q (omega arith)) less
          on (print x) (suc m) e = from r 0 (omega arith)
          on (outside j) m e = refl

  -- from the start
  final_is : (r : R) → final (trace L s (state 0 r 0)) ≡ ending_by L (suc (length s)) s 0 r 0
  final_is r =
      let h : Here s 0 0 = record { stands = refl; inside = omega arith; few = omega arith } in
      end_here s 0 r 0 h ∙ ends (suc (length s)) s 0 r 0 h (omega arith)

-- ---- what is refused, and where
module _ (L : Language) (reads : Reads L) where
  open L use {U, R, E, P, bytes, first, act, Stands}

  -- what follows the unit that stands first
  shorter : (rest : List ℕ) (u : U) (rest' : List ℕ) → first rest ≡ unit u rest' → (length rest ≡ length (bytes u) + length rest') × (0 < length (bytes u))
  shorter rest u rest' q = let w = reads.sound rest u rest' q in (ap length w.0 ∙ length-append (bytes u) rest', w.2)

  some_rest : (rest : List ℕ) (n : ℕ) → first rest ≡ bad n → 0 < length rest
  some_rest [] n e = absurd (bad≢none (sym e ∙ reads.at_end))
  some_rest (b ∷ rest) n e = omega arith

  -- Q holds of the number of every fault, and of every number outside its range
  module _ (Q : ℕ → Type 0) (faulty : (s : List ℕ) (n : ℕ) → first s ≡ bad n → Q n)
      (beyond : (r : R) (u : U) (rest : List ℕ) (n : ℕ) → Stands u rest → act r u ≡ outside n → Q n) where
    ends_act : (go : ℕ → R → ℕ → Final) (at m : ℕ) (a : Act R E P) (u : U) (r : R) (n : ℕ) → at < m → ((j : ℕ) → a ≡ outside j → Q j)
        → ((r' : R) (n' : ℕ) → Ends Q m (go (at + length (bytes u)) r' n')) → Ends Q m (ending_act L go a u at r n)
    ends_act go at m (keep r') u r n h out again = again r' n
    ends_act go at m (clear r') u r n h out again = again r' 0
    ends_act go at m (yield e) u r n h out again = again r (suc n)
    ends_act go at m (print q) u r n h out again = again r 0
    ends_act go at m (outside j) u r n h out again = (out j refl, h)

    ends_by : (k : ℕ) (rest : List ℕ) (at m : ℕ) (r : R) (n : ℕ) → at + length rest ≤ m → Ends Q m (ending_by L k rest at r n)
    ends_by zero rest at m r n h = tt
    ends_by (suc k) rest at m r n h = by (first rest) refl (λ rest' at' r' n' b. ends_by k rest' at' m r' n' b)
      where
        by : (o : First U) → first rest ≡ o → ((rest' : List ℕ) (at' : ℕ) (r' : R) (n' : ℕ) → at' + length rest' ≤ m → Ends Q m (ending_by L k rest' at' r' n'))
            → Ends Q m (ending_first L (λ rest' at' r' n'. ending_by L k rest' at' r' n') o at r n)
        by language.none q again = tt
        by (bad j) q again = (faulty rest j q, omega (arith, some_rest rest j q))
        by (unit u rest') q again =
            let l = shorter rest u rest' q in
            ends_act (ending_by L k rest') at m (act r u) u r n (omega (arith, l.0, l.1)) (λ j e. beyond r u rest' j (reads.sound rest u rest' q).1 e)
            (λ r' n'. again rest' (at + length (bytes u)) r' n' (omega (arith, l.0)))

    pub final_ends : (s : List ℕ) → length s ≤ longest → (r : R) → Ends Q (length s) (final (trace L s (state 0 r 0)))
    final_ends s short r = subst (Ends Q (length s)) (sym (final_is L reads s short r)) (ends_by (suc (length s)) s 0 (length s) r 0 (omega arith))

-- ---- a strict walk, by what the plain one has read
-- no place before `at`
abbrev Past : ℕ → Final → Type 0
Past at (accepted n) = Unit
Past at (refusal n p) = at ≤ p

past_later : (f : Final) (at at' : ℕ) → at ≤ at' → Past at' f → Past at f
past_later (accepted n) at at' h p = tt
past_later (refusal n q) at at' h p = omega arith

reached_past : (f : Final) (at m : ℕ) → Past at f → at < m → at < reached m f
reached_past (accepted n) at m p h = h
reached_past (refusal n q) at m p h = omega arith

module _ (L : Language) where
  open L use {U, R, E, P, bytes, first, act}

  past_act : (go : ℕ → R → ℕ → Final) (a : Act R E P) (u : U) (at : ℕ) (r : R) (n : ℕ) → ((r' : R) (n' : ℕ) → Past at (go (at + length (bytes u)) r' n')) → Past at (ending_act L go a u at r n)
  past_act go (keep r') u at r n again = again r' n
  past_act go (clear r') u at r n again = again r' 0
  past_act go (yield e) u at r n again = again r (suc n)
  past_act go (print q) u at r n again = again r 0
  past_act go (outside k) u at r n again = omega arith

  past_first : (k : ℕ) (o : First U) (at : ℕ) (r : R) (n : ℕ) → ((rest : List ℕ) (at' : ℕ) (r' : R) (n' : ℕ) → Past at' (ending_by L k rest at' r' n'))
      → Past at (ending_first L (λ rest at' r' n'. ending_by L k rest at' r' n') o at r n)
  past_first k language.none at r n again = tt
  past_first k (bad j) at r n again = omega arith
  past_first k (unit u rest) at r n again =
      past_act (ending_by L k rest) (act r u) u at r n (λ r' n'. past_later (ending_by L k rest (at + length (bytes u)) r' n') at (at + length (bytes u)) (omega arith) (again rest (at + length (bytes u)) r' n'))

  past : (k : ℕ) (rest : List ℕ) (at : ℕ) (r : R) (n : ℕ) → Past at (ending_by L k rest at r n)
  past zero rest at r n = tt
  past (suc k) rest at r n = past_first k (first rest) at r n (λ rest' at' r' n'. past k rest' at' r' n')

module _ (L : Language) (reads : Reads L) (guard : List ℕ → Option ℕ) (quiet : guard [] ≡ none) (size : List ℕ → ℕ)
    (size-unit : (s : List ℕ) (u : L.U) (rest : List ℕ) → L.first s ≡ unit u rest → size s ≡ length (L.bytes u))
    (size-bad : (s : List ℕ) (n : ℕ) → L.first s ≡ bad n → 0 < size s) where
  open L use {U, R, E, P, bytes, first, act}

  abbrev S : Language
  S = strictly L guard

  -- nothing more is looked at behind the end
  over : (k : ℕ) (rest : List ℕ) (at end : ℕ) (f : Final) → end ≤ at → objected_by guard size k rest at end f ≡ f
  over zero rest at end f h = refl
  over (suc k) rest at end f h = simp (le-ltb at end h)

  some_guarded : (rest : List ℕ) (m : ℕ) → guard rest ≡ some m → 0 < length rest
  some_guarded [] m e = let z : ◌≡◌ {A = ℕ} 0 1 = cc (sym quiet ∙ e) in absurd (omega arith)
  some_guarded (b ∷ rest) m e = omega arith

  -- a look at rest that stands at `at`, where the plain walk from there ends as f
  abbrev looked : ℕ → List ℕ → ℕ → Final → Final
  looked k rest at f = objected_by guard size k rest at (reached (at + length rest) f) f

  abbrev Same : ℕ → List ℕ → ℕ → R → ℕ → Type 0
  Same k rest at r n = ending_by S k rest at r n ≡ looked k rest at (ending_by L k rest at r n)

  -- one turn of the look, at a unit that is not objected to
  abbrev turned : ℕ → List ℕ → ℕ → Final → Final
  turned k rest at f = cond (ltb at (reached (at + length rest) f)) (objected_by guard size k (drop (size rest) rest) (at + size rest) (reached (at + length rest) f) f) f

  same_act : (k : ℕ) (rest : List ℕ) (at : ℕ) (r : R) (n : ℕ) (u : U) (rest' : List ℕ) → first rest ≡ unit u rest' → ((r' : R) (n' : ℕ) → Same k rest' (at + length (bytes u)) r' n') → (a : Act R E P)
      → ending_act S (ending_by S k rest') a u at r n ≡ turned k rest at (ending_act L (ending_by L k rest') a u at r n)
  same_act k rest at r n u rest' q again a = on a
    where
      go : (r' : R) (n' : ℕ) → ending_by S k rest' (at + length (bytes u)) r' n' ≡ turned k rest at (ending_by L k rest' (at + length (bytes u)) r' n')
      go r' n' =
          let f = ending_by L k rest' (at + length (bytes u)) r' n' in
          let l = shorter L reads rest u rest' q in
          let z = size-unit rest u rest' q in
          let d : rest' ≡ drop (size rest) rest = sym (drop-append_seam (bytes u) rest') ∙ (λ i. drop (sym z i) (sym (reads.sound rest u rest' q).0 i)) in
          let p : at + length (bytes u) ≡ at + size rest = omega arith in
          let m : at + length (bytes u) + length rest' ≡ at + length rest = omega (arith, l.0) in
          let b : at < reached (at + length rest) f = reached_past f at (at + length rest) (past_later f at (at + length (bytes u)) (omega arith) (past L k rest' (at + length (bytes u)) r' n')) (omega (arith, l.0, l.1)) in
          again r' n' ∙ (λ i. objected_by guard size k (d i) (p i) (reached (m i) f) f) ∙ (rw (lt-ltb at (reached (at + length rest) f) b))

      on : (a : Act R E P) → ending_act S (ending_by S k rest') a u at r n ≡ turned k rest at (ending_act L (ending_by L k rest') a u at r n)
      on (keep r') = go r' n
      on (clear r') = go r' 0
      on (yield e) = go r (suc n)
      on (print x) = go r 0
      on (outside j) =
          let l = shorter L reads rest u rest' q in
          let z = size-unit rest u rest' q in
          rw (lt-ltb at (suc at) (omega arith)) (sym (over k (drop (size rest) rest) (at + size rest) (suc at) (refusal j at) (omega (arith, l.1))))

  same : (k : ℕ) (rest : List ℕ) (at : ℕ) (r : R) (n : ℕ) → length rest < k → Same k rest at r n
  same zero rest at r n h = absurd (omega arith)
  same (suc k) rest at r n h = by (guard rest) refl (first rest) refl (λ rest' at' r' n' b. same k rest' at' r' n' b)
    where
      plain : First U → Final
      plain o = ending_first L (λ rest' at' r' n'. ending_by L k rest' at' r' n') o at r n

      by : (g : Option ℕ) → guard rest ≡ g → (o : First U) → first rest ≡ o → ((rest' : List ℕ) (at' : ℕ) (r' : R) (n' : ℕ) → length rest' < k → Same k rest' at' r' n')
          → ending_first S (λ rest' at' r' n'. ending_by S k rest' at' r' n') (unless g o) at r n
          ≡ cond (ltb at (reached (at + length rest) (plain o))) (or_else g at (objected_by guard size k (drop (size rest) rest) (at + size rest) (reached (at + length rest) (plain o)) (plain o))) (plain o)
      by (some m) e o q again =
          let b : at < reached (at + length rest) (plain o) = reached_past (plain o) at (at + length rest) (past_first L k o at r n (λ rest' at' r' n'. past L k rest' at' r' n')) (omega (arith, some_guarded rest m e)) in
          rw (lt-ltb at (reached (at + length rest) (plain o)) b)
      by none e language.none q again = let z = ap length (reads.empty rest q) in rw (le-ltb at (at + length rest) (omega arith))
      by none e (bad j) q again = rw (lt-ltb at (suc at) (omega arith)) (sym (over k (drop (size rest) rest) (at + size rest) (suc at) (refusal j at) (omega (arith, size-bad rest j q))))
      by none e (unit u rest') q again = same_act k rest at r n u rest' q (λ r' n'. again rest' (at + length (bytes u)) r' n' (omega (arith, shorter L reads rest u rest' q))) (act r u)

  pub strict_final : (s : List ℕ) (r : R) (f : Final) → length s ≤ longest → final (trace L s (state 0 r 0)) ≡ f
      → final (trace S s (state 0 r 0)) ≡ objected_by guard size (suc (length s)) s 0 (reached (length s) f) f
  strict_final s r f short e =
      let z : 0 + length s ≡ length s = omega arith in
      let g = sym (final_is L reads s short r) ∙ e in
      final_is S (strict_reads L guard reads quiet) s short r ∙ same (suc (length s)) s 0 r 0 (omega arith)
      ∙ (λ i. objected_by guard size (suc (length s)) s 0 (reached (z i) (g i)) (g i))
