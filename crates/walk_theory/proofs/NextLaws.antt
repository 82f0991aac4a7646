-- The index one entry at a time: from the answers of a walk whose pending count is one too many, so that every print
-- line is answered, one that prints nothing too; and that these entries are the index's. Assumes nothing.
use mathlib.Core.Path.{◌≡◌, refl, sym, ap, subst, ◌∙◌}
use mathlib.Core.List.{List, [], ◌∷◌, ◌++◌}
use Prim.Native.Nat.{ℕ, zero, suc, ◌+◌, ◌≤◌, ◌<◌}
use native.Mathlib.Omega.{arith}
use lib.ListN.{length, length-append, drop}
use lib.Seq.{drop-append_seam, drop-drop}
use Rattle.walk_theory.specs.Language.{First, none, bad, unit, Act, keep, clear, yield, print, outside, Language}
use Rattle.walk_theory.specs.Division.{Reads, on_units, units_of}
use Rattle.walk_theory.specs.Step.{State, Answer, element, cleared, printed, ended, refused, handing, on_act, on_first, answer_by, answer}
use Rattle.walk_theory.specs.Index.{Entry, Hand, hand, hand_at, entry_at, entries_by, entries_of}
use Rattle.walk_theory.specs.Next.{Cursor, next_print, next_by, next_of, next_from, next}
use Rattle.walk_theory.proofs.DivisionLaws.{units_first}
use Rattle.walk_theory.proofs.TraceLaws.{Moves, moves_from}

module _ (L : Language) where
  open L use {U, R, E, P, bytes}

  -- what a loop makes of an answer to one more than are pending, h being the label at hand
  abbrev pub on_told : List ℕ → Cursor R → Hand R → Answer R E P → Cursor R
  on_told s c h (element e st) = next_from L s c st.place (hand h.from h.start st.ref (suc h.pending))
  on_told s c h (cleared st) = next_from L s c st.place (hand h.from h.start st.ref 0)
  on_told s c h (printed n q st) = next_print (next_from L s c st.place (hand_at st.place st.ref)) (hand h.from h.start st.ref h.pending) st.place h.pending
  on_told s c h (ended st) = c
  on_told s c h (refused n p st) = c

  told_handed : (s : List ℕ) (c : Cursor R) (h : Hand R) (g : State R) (a : Answer R E P) → on_told s c h (handing g a) ≡ on_told s c h a
  unfolding handing
  told_handed s c h g (element e st) = refl
  told_handed s c h g (cleared st) = refl
  told_handed s c h g (printed n q st) = refl
  told_handed s c h g (ended st) = refl
  told_handed s c h g (refused n p st) = refl

  -- the reference of the label at hand is the answer's own
  told_hand : (s : List ℕ) (c : Cursor R) (h : Hand R) (r : R) (a : Answer R E P) → on_told s c (hand h.from h.start r h.pending) a ≡ on_told s c h a
  told_hand s c h r (element e st) = refl
  told_hand s c h r (cleared st) = refl
  told_hand s c h r (printed n q st) = refl
  told_hand s c h r (ended st) = refl
  told_hand s c h r (refused n p st) = refl

  print_hand : (x : Cursor R) (h : Hand R) (next n : ℕ) → next_print x h next n ≡ next_print x (hand h.from h.start h.ref h.pending) next n
  print_hand x h next zero = refl
  print_hand x h next (suc n) = refl

-- a print line, by whether something is pending
pub next_some : {R : Type 0} (x : Cursor R) (h : Hand R) (upto n : ℕ) → 0 < n → next_print x h upto n ≡ record { entry = record { from = h.from; upto = upto; count = n; start = h.start }; ref = h.ref }
next_some x h upto zero b = absurd (omega arith)
next_some x h upto (suc n) b = refl

pub next_none : {R : Type 0} (x : Cursor R) (h : Hand R) (upto n : ℕ) → n ≤ 0 → next_print x h upto n ≡ x
next_none x h upto zero b = refl
next_none x h upto (suc n) b = absurd (omega arith)

module _ (L : Language) (reads : Reads L) (s : List ℕ) (c : Cursor L.R) where
  open L use {U, R, E, P, bytes, first, act}

  on_act_lem : (k : ℕ) (u : U) (rest : List ℕ) (at : ℕ) (h : Hand R) (a : Act R E P) → drop (at + length (bytes u)) s ≡ rest
      → ((h' : Hand R) → next_of L c (at + length (bytes u)) h' (units_of L rest) ≡ on_told L s c h' (answer_by L k rest (at + length (bytes u)) h'.ref (suc h'.pending)))
      → next_by (λ h'. next_of L c (at + length (bytes u)) h' (units_of L rest)) c h (at + length (bytes u)) a
      ≡ on_told L s c h (on_act L (λ at' r'. answer_by L k rest at' r' (suc h.pending)) a u at h.ref (suc h.pending))
  on_act_lem k u rest at h (keep r) e again = again (hand h.from h.start r h.pending) ∙ told_hand L s c h r (answer_by L k rest (at + length (bytes u)) r (suc h.pending))
  on_act_lem k u rest at h (clear r) e again = ap (λ (x : List ℕ). next_of L c (at + length (bytes u)) (hand h.from h.start r 0) (units_of L x)) (sym e)
  on_act_lem k u rest at h (yield d) e again = ap (λ (x : List ℕ). next_of L c (at + length (bytes u)) (hand h.from h.start h.ref (suc h.pending)) (units_of L x)) (sym e)
  on_act_lem k u rest at h (print q) e again =
      print_hand L (next_of L c (at + length (bytes u)) (hand_at (at + length (bytes u)) h.ref) (units_of L rest)) h (at + length (bytes u)) h.pending
      ∙ ap (λ (x : List ℕ). next_print (next_of L c (at + length (bytes u)) (hand_at (at + length (bytes u)) h.ref) (units_of L x)) (hand h.from h.start h.ref h.pending) (at + length (bytes u)) h.pending) (sym e)
  on_act_lem k u rest at h (outside j) e again = refl

  told_by_lem : (k : ℕ) (rest : List ℕ) (at : ℕ) (h : Hand R) → drop at s ≡ rest → length rest < k
      → next_of L c at h (units_of L rest) ≡ on_told L s c h (answer_by L k rest at h.ref (suc h.pending))
  told_by_lem zero rest at h e b = absurd (omega arith)
  told_by_lem (suc k) rest at h e b = ap (next_of L c at h) (units_first L reads rest) ∙ go (λ rest' at' h'. told_by_lem k rest' at' h') (first rest) refl
    where
      go : ((rest' : List ℕ) (at' : ℕ) (h' : Hand R) → drop at' s ≡ rest' → length rest' < k → next_of L c at' h' (units_of L rest') ≡ on_told L s c h' (answer_by L k rest' at' h'.ref (suc h'.pending)))
          → (o : First U) → first rest ≡ o
          → next_of L c at h (on_units L (λ x. units_of L x) o) ≡ on_told L s c h (on_first L (λ rest' at' r'. answer_by L k rest' at' r' (suc h.pending)) o at h.ref (suc h.pending))
      go again none q = refl
      go again (bad j) q = refl
      go again (unit u rest') q =
          let w = reads.sound rest u rest' q in
          let there : drop (at + length (bytes u)) s ≡ rest' = sym (drop-drop (length (bytes u)) at s) ∙ ap (drop (length (bytes u))) (e ∙ w.0) ∙ drop-append_seam (bytes u) rest' in
          on_act_lem k u rest' at h (act h.ref u) there (λ h'. again rest' (at + length (bytes u)) h' there (omega (arith, ap length w.0, length-append (bytes u) rest', w.2)))

  -- as a loop has it: a is what was answered from there with one more than are pending, g being the state that was
  -- given
  pub told_turn : (at : ℕ) (h : Hand R) (g : State R) (a : Answer R E P) → a ≡ handing g (answer L (drop at s) at h.ref (suc h.pending)) → next_from L s c at h ≡ on_told L s c h a
  unfolding answer
  told_turn at h g a e =
      told_by_lem (suc (length (drop at s))) (drop at s) at h refl (omega arith)
      ∙ sym (told_handed L s c h g (answer L (drop at s) at h.ref (suc h.pending))) ∙ ap (on_told L s c h) (sym e)

  -- the same, m being what was handed in as pending
  pub told_at : (at : ℕ) (h : Hand R) (g : State R) (m : ℕ) (a : Answer R E P) → suc h.pending ≡ m → a ≡ handing g (answer L (drop at s) at h.ref m) → next_from L s c at h ≡ on_told L s c h a
  told_at at h g m a k e = told_turn at h g a (e ∙ ap (λ (x : ℕ). handing g (answer L (drop at s) at h.ref x)) (sym k))

moves_handing : {R E P : Type 0} (g : State R) (at end n : ℕ) (a : Answer R E P) → Moves at end n a → Moves at end n (handing g a)
unfolding handing
moves_handing g at end n (element e st) m = m
moves_handing g at end n (cleared st) m = m
moves_handing g at end n (printed j q st) m = m
moves_handing g at end n (ended st) m = m
moves_handing g at end n (refused j p st) m = m

-- and every answer but the end and a refusal moves on
pub moves_told : (L : Language) (reads : Reads L) (s : List ℕ) (st g : State L.R) (a : Answer L.R L.E L.P) → st.place ≤ length s
    → a ≡ handing g (answer L (drop st.place s) st.place st.ref st.pending) → Moves st.place (length s) st.pending a
moves_told L reads s st g a h e =
    subst (λ (x : Answer L.R L.E L.P). Moves st.place (length s) st.pending x) (sym e) (moves_handing g st.place (length s) st.pending _ (moves_from L reads s st h))

-- ---- these entries are the index's
module _ (L : Language) (reads : Reads L) (s : List ℕ) where
  open L use {U, R, E, P, bytes, first, act}

  abbrev entries_at : ℕ → Hand R → List (Entry R)
  entries_at at h = entries_of L at h (units_of L (drop at s))

  -- the entries es from somewhere on begin with the one that the cursor c' holds, or there is none
  pub data Leads (c : Cursor R) : List (Entry R) → Cursor R → Type 0 where
    no_more : Leads c [] c
    one_more : (c' : Cursor R) → Leads c (c'.entry ∷ entries_at c'.entry.upto (hand_at c'.entry.upto c'.ref)) c'

  module _ (c : Cursor R) where
    leads_print : (h : Hand R) (upto n : ℕ) (x : Cursor R) → Leads c (entries_at upto (hand_at upto h.ref)) x
        → Leads c (entry_at h upto n ++ entries_at upto (hand_at upto h.ref)) (next_print x h upto n)
    leads_print h upto zero x w = w
    leads_print h upto (suc n) x w = one_more (next_print x h upto (suc n))

    leads_act : (u : U) (rest : List ℕ) (at : ℕ) (h : Hand R) (a : Act R E P) → rest ≡ drop (at + length (bytes u)) s
        → ((h' : Hand R) → Leads c (entries_of L (at + length (bytes u)) h' (units_of L rest)) (next_of L c (at + length (bytes u)) h' (units_of L rest)))
        → Leads c (entries_by (λ h'. entries_of L (at + length (bytes u)) h' (units_of L rest)) h (at + length (bytes u)) a) (next_by (λ h'. next_of L c (at + length (bytes u)) h' (units_of L rest)) c h (at + length (bytes u)) a)
    leads_act u rest at h (keep r) e again = again (hand h.from h.start r h.pending)
    leads_act u rest at h (clear r) e again = again (hand h.from h.start r 0)
    leads_act u rest at h (yield d) e again = again (hand h.from h.start h.ref (suc h.pending))
    leads_act u rest at h (print q) e again =
        let upto = at + length (bytes u) in
        let es : List ℕ → List (Entry R) = λ t. entries_of L upto (hand_at upto h.ref) (units_of L t) in
        let w : Leads c (es (drop upto s)) (next_of L c upto (hand_at upto h.ref) (units_of L rest)) = subst (λ (t : List ℕ). Leads c (es t) (next_of L c upto (hand_at upto h.ref) (units_of L rest))) e (again (hand_at upto h.ref)) in
        subst (λ (t : List ℕ). Leads c (entry_at h upto h.pending ++ es t) (next_print (next_of L c upto (hand_at upto h.ref) (units_of L rest)) h upto h.pending)) (sym e) (leads_print h upto h.pending _ w)
    leads_act u rest at h (outside j) e again = no_more

    leads_by : (k : ℕ) (rest : List ℕ) (at : ℕ) (h : Hand R) → drop at s ≡ rest → length rest < k → Leads c (entries_of L at h (units_of L rest)) (next_of L c at h (units_of L rest))
    leads_by zero rest at h e b = absurd (omega arith)
    leads_by (suc k) rest at h e b =
        subst (λ (us : List U). Leads c (entries_of L at h us) (next_of L c at h us)) (sym (units_first L reads rest)) (go (λ rest' at' h'. leads_by k rest' at' h') (first rest) refl)
      where
        go : ((rest' : List ℕ) (at' : ℕ) (h' : Hand R) → drop at' s ≡ rest' → length rest' < k → Leads c (entries_of L at' h' (units_of L rest')) (next_of L c at' h' (units_of L rest')))
            → (o : First U) → first rest ≡ o → Leads c (entries_of L at h (on_units L (λ x. units_of L x) o)) (next_of L c at h (on_units L (λ x. units_of L x) o))
        go again none q = no_more
        go again (bad j) q = no_more
        go again (unit u rest') q =
            let w = reads.sound rest u rest' q in
            let there : drop (at + length (bytes u)) s ≡ rest' = sym (drop-drop (length (bytes u)) at s) ∙ ap (drop (length (bytes u))) (e ∙ w.0) ∙ drop-append_seam (bytes u) rest' in
            leads_act u rest' at h (act h.ref u) (sym there) (λ h'. again rest' (at + length (bytes u)) h' there (omega (arith, ap length w.0, length-append (bytes u) rest', w.2)))

  abbrev pub behind : Cursor R → List (Entry R)
  behind c = entries_at c.entry.upto (hand_at c.entry.upto c.ref)

  -- the entries behind a cursor are the next one's and those behind it, or none
  pub leads : (c : Cursor R) → Leads c (behind c) (next L s c)
  leads c = leads_by c (suc (length (drop c.entry.upto s))) (drop c.entry.upto s) c.entry.upto (hand_at c.entry.upto c.ref) refl (omega arith)

  -- the first n entries, by n turns from a cursor
  abbrev pub turns : ℕ → Cursor R → List (Entry R)
  turns zero c = []
  turns (suc n) c = (next L s c).entry ∷ turns n (next L s c)

  -- so many turns as there are entries make them all
  leads_cons : {c c' : Cursor R} {es : List (Entry R)} → Leads c es c' → 0 < length es → es ≡ c'.entry ∷ behind c'
  leads_cons no_more h = absurd (omega arith)
  leads_cons (one_more c') h = refl

  none_left : (es : List (Entry R)) → 0 ≡ length es → [] ≡ es
  none_left [] e = refl
  none_left (x ∷ es) e = absurd (omega arith)

  pub turns_all : (n : ℕ) (c : Cursor R) → n ≡ length (behind c) → turns n c ≡ behind c
  turns_all zero c e = none_left (behind c) e
  turns_all (suc n) c e =
      let k : behind c ≡ (next L s c).entry ∷ behind (next L s c) = leads_cons (leads c) (omega (arith, e)) in
      ap (λ (x : List (Entry R)). (next L s c).entry ∷ x) (turns_all n (next L s c) (omega (arith, e, ap length k))) ∙ sym k
