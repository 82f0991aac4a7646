-- The walk of a language whose elements carry places: it can be read (`placed_reads`), and a step of it is that of the
-- language itself with a place beside the element (`placed_step`).
-- Opening is the same but for the places (`opening_forgets`). Assumes nothing.
use mathlib.Core.Path.{◌≡◌, refl, sym, ap, subst, ◌∙◌}
use mathlib.Core.Bool.{Bool, true, false, cond, ◌||◌}
use mathlib.Core.List.{List, [], ◌∷◌, ◌++◌, append_assoc, append-nil}
use Prim.Native.Nat.{ℕ, zero, suc, ◌+◌}
use lib.Dec.{ltb}
use lib.ListN.{length, drop}
use Rattle.elements.specs.Given.{longest}
use Rattle.walk_theory.specs.Language as language
use Rattle.walk_theory.specs.Language.{First, bad, unit, Act, keep, clear, yield, print, outside, Language}
use Rattle.walk_theory.specs.Division.{Reads}
use Rattle.walk_theory.specs.Step.{State, Answer, element, cleared, printed, ended, refused, handing, on_act, on_first, answer_by, answer, step}
use Rattle.walk_theory.specs.Trace.{Trace, stops, refuses, yields, clears, prints, left, steps, trace, on_answer, lead, after}
use Rattle.walk_theory.specs.Index.{Opening, opens, denies, first_in}
use Rattle.dots_label.specs.Placed.{Placed, placed_act, placed}

-- an answer with a place beside its element, and the place in an answer: 0 where there is none
abbrev pub placing : {R E P : Type 0} → ℕ → Answer R E P → Answer R (Placed E) P
placing p (element e st) = element (record { place = p; element = e }) st
placing p (cleared st) = cleared st
placing p (printed n q st) = printed n q st
placing p (ended st) = ended st
placing p (refused n k st) = refused n k st

abbrev pub place_in : {R E P : Type 0} → Answer R (Placed E) P → ℕ
place_in (element d st) = d.place
place_in (cleared st) = 0
place_in (printed n q st) = 0
place_in (ended st) = 0
place_in (refused n k st) = 0

-- x is the answer a with its place
abbrev Same : {R E P : Type 0} → Answer R (Placed E) P → Answer R E P → Type 0
Same x a = x ≡ placing (place_in x) a

same_handing : {R E P : Type 0} (g : State R) (x : Answer R (Placed E) P) (a : Answer R E P) → Same x a → Same (handing g x) (handing g a)
unfolding handing
same_handing {R} {E} {P} g x a e = subst (λ (y : Answer R (Placed E) P). Same (handing g y) (handing g a)) (sym e) (by (place_in x) a)
  where
    by : (p : ℕ) (b : Answer R E P) → Same (handing g (placing p b)) (handing g b)
    by p (element d st) = refl
    by p (cleared st) = refl
    by p (printed n q st) = refl
    by p (ended st) = refl
    by p (refused n k st) = refl

module _ (L : Language) where
  open L use {U, R, E, P, bytes, first, act}

  abbrev pub D : Type 0
  D = Placed E

  pub placed_reads : Reads L → Reads (placed L)
  placed_reads r = record { at_end = r.at_end; finds = r.finds; sound = r.sound; empty = r.empty }

  same_act : (go : ℕ → R → Answer R E P) (go' : ℕ → R → Answer R D P) (a : Act R E P) (u : U) (at : ℕ) (r : R) (n : ℕ) → ((at' : ℕ) (r' : R) → Same (go' at' r') (go at' r'))
      → Same (on_act (placed L) go' (placed_act a) u at r n) (on_act L go a u at r n)
  same_act go go' (keep r') u at r n again = again (at + length (bytes u)) r'
  same_act go go' (clear r') u at r n again = refl
  same_act go go' (yield e) u at r n again = refl
  same_act go go' (print q) u at r zero again = again (at + length (bytes u)) r
  same_act go go' (print q) u at r (suc n) again = refl
  same_act go go' (outside k) u at r n again = refl

  same_answer : (k : ℕ) (rest : List ℕ) (at : ℕ) (r : R) (n : ℕ) → Same (answer_by (placed L) k rest at r n) (answer_by L k rest at r n)
  same_answer zero rest at r n = refl
  same_answer (suc k) rest at r n = by (λ rest' at' r'. same_answer k rest' at' r' n) (first rest)
    where
      by : ((rest' : List ℕ) (at' : ℕ) (r' : R) → Same (answer_by (placed L) k rest' at' r' n) (answer_by L k rest' at' r' n)) → (o : First U)
          → Same (on_first (placed L) (λ rest' at' r'. answer_by (placed L) k rest' at' r' n) o at r n) (on_first L (λ rest' at' r'. answer_by L k rest' at' r' n) o at r n)
      by again language.none = refl
      by again (bad j) = refl
      by again (unit u rest') = same_act (λ at' r'. answer_by L k rest' at' r' n) (λ at' r'. answer_by (placed L) k rest' at' r' n) (act r u) u at r n (again rest')

  pub placed_step : (s : List ℕ) (st : State R) → Same (step (placed L) s st) (step L s st)
  unfolding step answer
  placed_step s st = by (ltb longest (length s)) (ltb (length s) st.place || ltb st.place st.pending)
    where
      t : List ℕ
      t = drop st.place s

      by : (b c : Bool) → Same (cond b (refused 14 0 st) (cond c (refused 16 st.place st) (handing st (answer_by (placed L) (suc (length t)) t st.place st.ref st.pending))))
          (cond b (refused 14 0 st) (cond c (refused 16 st.place st) (handing st (answer_by L (suc (length t)) t st.place st.ref st.pending))))
      by true c = refl
      by false true = refl
      by false false = same_handing st _ _ (same_answer (suc (length t)) t st.place st.ref st.pending)

  -- ---- opening is the same but for the places
  abbrev pub forgets : Trace D P → Trace E P
  forgets (stops n) = stops n
  forgets (refuses n k) = refuses n k
  forgets (yields d t) = yields d.element (forgets t)
  forgets (clears t) = clears (forgets t)
  forgets (prints n q t) = prints n q (forgets t)

  forgets_by : (s : List ℕ) (go : State R → Trace E P) (go' : State R → Trace D P) → ((st : State R) → go st ≡ forgets (go' st)) → (p : ℕ) (a : Answer R E P)
      → on_answer L go a ≡ forgets (on_answer (placed L) go' (placing p a))
  forgets_by s go go' h p (element e st) = ap (yields e) (h st)
  forgets_by s go go' h p (cleared st) = ap clears (h st)
  forgets_by s go go' h p (printed n q st) = ap (prints n q) (h st)
  forgets_by s go go' h p (ended st) = refl
  forgets_by s go go' h p (refused n k st) = refl

  forgets_steps : (k : ℕ) (s : List ℕ) (st : State R) → steps L k s st ≡ forgets (steps (placed L) k s st)
  forgets_steps zero s st = refl
  forgets_steps (suc k) s st =
      forgets_by s (λ st'. steps L k s st') (λ st'. steps (placed L) k s st') (λ st'. forgets_steps k s st') (place_in (step (placed L) s st)) (step L s st)
      ∙ ap (λ (x : Answer R D P). forgets (on_answer (placed L) (λ st'. steps (placed L) k s st') x)) (sym (placed_step s st))

  pub trace_forgets : (s : List ℕ) (st : State R) → trace L s st ≡ forgets (trace (placed L) s st)
  unfolding trace
  trace_forgets s st = forgets_steps (suc (left s st)) s st

  module _ (F : Type 0) (frame : List ℕ → E → F) where
    -- the frames of placed elements, and a label of them
    abbrev pub frames_of : List ℕ → List D → List F
    frames_of t [] = []
    frames_of t (d ∷ ds) = frame t d.element ∷ frames_of t ds

    abbrev pub framed : List ℕ → Opening D P → Opening F P
    framed t (opens l) = opens (record { count = l.count; says = l.says; frames = frames_of t l.frames })
    framed t (denies k p) = denies k p

    frames_also : (t : List ℕ) (ds : List D) (d : D) → frames_of t ds ++ (frame t d.element ∷ []) ≡ frames_of t (ds ++ (d ∷ []))
    frames_also t [] d = refl
    frames_also t (c ∷ ds) d = ap (λ (fs : List F). frame t c.element ∷ fs) (frames_also t ds d)

    first_forgets : (i : ℕ) (t : List ℕ) (ds : List D) (x : Trace D P) → first_in L F frame i t (frames_of t ds) (forgets x) ≡ framed t (first_in (placed L) D (λ _ d. d) i t ds x)
    first_forgets i t ds (stops n) = refl
    first_forgets i t ds (refuses n k) = refl
    first_forgets i t ds (yields d x) = ap (λ (fs : List F). first_in L F frame i t fs (forgets x)) (frames_also t ds d) ∙ first_forgets i t (ds ++ (d ∷ [])) x
    first_forgets i t ds (clears x) = first_forgets i t [] x
    first_forgets i t ds (prints n q x) = refl

    pub opening_forgets : (i : ℕ) (t : List ℕ) (st : State R) → first_in L F frame i t [] (trace L t st) ≡ framed t (first_in (placed L) D (λ _ d. d) i t [] (trace (placed L) t st))
    opening_forgets i t st = ap (first_in L F frame i t []) (trace_forgets t st) ∙ first_forgets i t [] (trace (placed L) t st)

  -- ---- the first label, by what follows the elements that a walk begins with
  pub first_after : (i : ℕ) (s : List ℕ) (p : List D) (t : Trace D P)
      → first_in (placed L) D (λ _ d. d) i s p t ≡ first_in (placed L) D (λ _ d. d) i s (p ++ lead (placed L) D (λ _ d. d) s t) (after t)
  first_after i s p (stops n) = refl
  first_after i s p (refuses n k) = refl
  first_after i s p (yields d t) =
      first_after i s (p ++ (d ∷ [])) t ∙ ap (λ (q : List D). first_in (placed L) D (λ _ x. x) i s q (after t)) (append_assoc p (d ∷ []) (lead (placed L) D (λ _ x. x) s t))
  first_after i s p (clears t) = refl
  first_after i s p (prints n q t) = ap (λ (x : List D). first_in (placed L) D (λ _ d. d) i s x (prints n q t)) (sym (append-nil p))
