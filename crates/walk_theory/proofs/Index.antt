-- The label index: each entry opens its own label (`indexed`). The induction goes over the units; the label at hand is
-- a run of units since its start. Assumes nothing.
use mathlib.Core.Path.{◌≡◌, refl, sym, ap, subst, ◌∙◌}
use mathlib.Core.Option.{none, some}
use mathlib.Core.List.{List, [], ◌∷◌, ◌++◌, append_assoc, append-nil}
use Prim.Native.Nat.{ℕ, zero, suc, ◌+◌, ◌≤◌}
use native.Mathlib.Omega.{arith}
use lib.ListN.{length, length-append, take, get_elem?}
use lib.Seq.{take_at}
use borrow.Author.Tests.{le-ltb}
use Rattle.walk_theory.specs.Language.{Act, keep, clear, yield, print, outside, Language}
use Rattle.walk_theory.specs.Division.{Division, Reads, Firm}
use Rattle.walk_theory.specs.Labels.{Label, flush, Run, goes, and_then, effect, run, Divides}
use Rattle.elements.specs.Given.{longest}
use Rattle.walk_theory.specs.Step.{state}
use Rattle.walk_theory.specs.Trace.{Trace, stops, refuses, yields, clears, prints, final, trace, labels_in, outcome}
use Rattle.walk_theory.specs.Normal.{each}
use Rattle.walk_theory.specs.Claims.{Local}
use Rattle.walk_theory.specs.Index.{Along, along_nil, along_cons, Entry, Hand, hand, hand_at, entry_at, entries_by, entries_of, entries, opens, first_in, opening_found, opening, EntryOf, Indexed}
use Rattle.walk_theory.proofs.DivisionLaws.{units_division, Parted, parted, front_divides}
use Rattle.walk_theory.proofs.RunLaws.{leaves≢goes, goes_inj, before_goes, before_nil, closed_goes, run_act, run_goes}
use Rattle.walk_theory.proofs.SolidLaws.{each_append}
use Rattle.walk_theory.proofs.OutcomeLaws.{ending_listed, listed_from}

-- ---- Along
module _ {A B : Type 0} {Q : A → B → Type 0} where
  along_append : {xs xs' : List A} {ys ys' : List B} → Along Q xs ys → Along Q xs' ys' → Along Q (xs ++ xs') (ys ++ ys')
  along_append along_nil w = w
  along_append (along_cons q v) w = along_cons q (along_append v w)

  along_length : {xs : List A} {ys : List B} → Along Q xs ys → length xs ≡ length ys
  along_length along_nil = refl
  along_length (along_cons q v) = ap suc (along_length v)

  -- by number
  along_at : {xs : List A} {ys : List B} → Along Q xs ys → (i : ℕ) (b : B) → get_elem? ys i ≡ some b → (a : A) × (get_elem? xs i ≡ some a) × Q a b
  along_at along_nil i b e = let z : ◌≡◌ {A = ℕ} 0 1 = cc in absurd (omega arith)
  along_at (along_cons {a} {b = b'} q v) zero b e = let k : b' ≡ b = cc in (a, refl, subst (Q a) k q)
  along_at (along_cons q v) (suc i) b e = along_at v i b e

element_past : {A : Type 0} (xs : List A) (i : ℕ) → length xs ≤ i → get_elem? xs i ≡ none
element_past [] i h = refl
element_past (x ∷ xs) zero h = absurd (omega arith)
element_past (x ∷ xs) (suc i) h = element_past xs i (omega arith)

module _ (L : Language) (reads : Reads L) (firm : Firm L) (F : Type 0) (frame : List ℕ → L.E → F) (local : Local L F frame) (s : List ℕ) (short : length s ≤ longest) where
  open L use {U, R, E, P, bytes, act}

  -- the label at hand: it starts after `pre`, and the units bs stand since; p are pending
  record Since (at : ℕ) (h : Hand R) (pre : List ℕ) (bs : List U) (p : List F) : Type 0 where
    here : at ≡ length pre + length (each bytes bs)
    began : h.from ≡ length pre
    counted : h.pending ≡ length p
    ran : run L F frame h.start [] bs ≡ goes [] h.ref p

  -- one unit more, which prints nothing
  also : (at : ℕ) (h : Hand R) (pre : List ℕ) (bs : List U) (p : List F) (u : U) (a : Act R E P) (r : R) (n : ℕ) (p' : List F) → Since at h pre bs p → act h.ref u ≡ a
      → effect L F frame h.ref p u a ≡ goes [] r p' → n ≡ length p' → Since (at + length (bytes u)) (hand h.from h.start r n) pre (bs ++ u ∷ []) p'
  also at h pre bs p u a r n p' w e q k = record {
    here = omega (arith, w.here, ap length (each_append bytes bs (u ∷ [])), length-append (each bytes bs) (bytes u ++ []), length-append (bytes u) []);
    began = w.began;
    counted = k;
    ran = run_goes L F frame bs (u ∷ []) h.start [] w.ran ∙ before_nil (run L F frame h.ref p (u ∷ [])) ∙ run_act L F frame u [] h.ref p a e ∙ ap (λ (x : Run R F P). and_then x (λ r' q'. goes [] r' q')) q;
  }

  -- the entry of the label that is printed at the end of the units bs, `rest` following them
  the_entry : (upto : ℕ) (h : Hand R) (pre rest : List ℕ) (bs : List U) (n : ℕ) (q : P) (f : F) (p : List F) (r : R) → h.from ≡ length pre → upto ≡ length (pre ++ each bytes bs)
      → s ≡ (pre ++ each bytes bs) ++ rest → Division L (each bytes bs) bs → n ≡ length p → run L F frame h.start [] bs ≡ goes (record { count = length (f ∷ p); says = q; frames = f ∷ p } ∷ []) r []
      → EntryOf L F frame s (record { from = h.from; upto = upto; count = suc n; start = h.start }) (record { count = length (f ∷ p); says = q; frames = f ∷ p })
  the_entry upto h pre rest bs n q f p r b t e d c k =
      let m = length-append pre (each bytes bs) in
      let size : length s ≡ length (pre ++ each bytes bs) + length rest = ap length e ∙ length-append (pre ++ each bytes bs) rest in
      let cut : take upto s ≡ pre ++ each bytes bs = ap (take upto) e ∙ take_at (pre ++ each bytes bs) rest upto (sym t) in
      record {
        ordered = omega arith;
        inside = omega arith;
        counted = ap suc c;
        alone =
            ap (λ (x : List ℕ). outcome L F frame x (state h.from h.start 0)) cut
            ∙ ap (λ (x : ℕ). outcome L F frame (pre ++ each bytes bs) (state x h.start 0)) b
            ∙ listed_from L reads F frame local (pre ++ each bytes bs) (omega arith) h.start pre (each bytes bs) refl d k;
      }

  -- at a print line, that of what it prints
  at_print : (upto : ℕ) (h : Hand R) (pre rest : List ℕ) (bs : List U) (n : ℕ) (q : P) (p : List F) (r : R) → h.from ≡ length pre → upto ≡ length (pre ++ each bytes bs)
      → s ≡ (pre ++ each bytes bs) ++ rest → Division L (each bytes bs) bs → n ≡ length p → run L F frame h.start [] bs ≡ goes (flush q p) r []
      → Along (EntryOf L F frame s) (entry_at h upto n) (flush q p)
  unfolding flush
  at_print upto h pre rest bs zero q [] r b t e d c k = along_nil
  at_print upto h pre rest bs zero q (f ∷ p) r b t e d c k = absurd (omega arith)
  at_print upto h pre rest bs (suc n) q [] r b t e d c k = absurd (omega arith)
  at_print upto h pre rest bs (suc n) q (f ∷ p) r b t e d c k = along_cons (the_entry upto h pre rest bs n q f p r b t e d (omega arith) k) along_nil

  by_units : (us bs : List U) (pre x : List ℕ) (at : ℕ) (h : Hand R) (p : List F) (ls : List (Label F P)) (r' : R) (p' : List F) → Since at h pre bs p → s ≡ pre ++ x → Division L x (bs ++ us)
      → run L F frame h.ref p us ≡ goes ls r' p' → Along (EntryOf L F frame s) (entries_of L at h us) ls
  by_units [] bs pre x at h p ls r' p' w e d q = subst (Along (EntryOf L F frame s) []) (goes_inj q).0 along_nil
  by_units (u ∷ us) bs pre x at h p ls r' p' w e d q = by (act h.ref u) refl (λ bs' pre' x' at' h' p'' ls'. by_units us bs' pre' x' at' h' p'' ls' r' p')
    where
      d' : Division L x ((bs ++ u ∷ []) ++ us)
      d' = subst (Division L x) (sym (append_assoc bs (u ∷ []) us)) d

      next : ℕ
      next = at + length (bytes u)

      Again : Type 0
      Again = (bs' : List U) (pre' x' : List ℕ) (at' : ℕ) (h' : Hand R) (p'' : List F) (ls' : List (Label F P)) → Since at' h' pre' bs' p'' → s ≡ pre' ++ x' → Division L x' (bs' ++ us)
          → run L F frame h'.ref p'' us ≡ goes ls' r' p' → Along (EntryOf L F frame s) (entries_of L at' h' us) ls'

      -- after a unit that prints nothing
      silent : (a : Act R E P) → act h.ref u ≡ a → (r : R) (p'' : List F) (n : ℕ) → effect L F frame h.ref p u a ≡ goes [] r p'' → n ≡ length p'' → Again
          → Along (EntryOf L F frame s) (entries_of L next (hand h.from h.start r n) us) ls
      silent a z r p'' n k c again =
          again (bs ++ u ∷ []) pre x next (hand h.from h.start r n) p'' ls (also at h pre bs p u a r n p'' w z k c) e d'
          (sym (before_nil (run L F frame r p'' us)) ∙ sym (ap (λ (y : Run R F P). and_then y (λ r'' p'''. run L F frame r'' p''' us)) k) ∙ sym (run_act L F frame u us h.ref p a z) ∙ q)

      f : Parted L x (bs ++ u ∷ []) us
      f = parted L (bs ++ u ∷ []) us d'

      c : List ℕ
      c = pre ++ each bytes (bs ++ u ∷ [])

      whole : s ≡ c ++ f.rest
      whole = e ∙ ap (λ (y : List ℕ). pre ++ y) f.whole ∙ sym (append_assoc pre (each bytes (bs ++ u ∷ [])) f.rest)

      there : next ≡ length c
      there = omega (arith, w.here, length-append pre (each bytes (bs ++ u ∷ [])), ap length (each_append bytes bs (u ∷ [])), length-append (each bytes bs) (bytes u ++ []), length-append (bytes u) [])

      printed : (o : P) → act h.ref u ≡ print o → run L F frame h.start [] (bs ++ u ∷ []) ≡ goes (flush o p) h.ref []
      printed o z =
          run_goes L F frame bs (u ∷ []) h.start [] w.ran ∙ before_nil (run L F frame h.ref p (u ∷ [])) ∙ run_act L F frame u [] h.ref p (print o) z
          ∙ ap (λ (y : List (Label F P)). goes y h.ref []) (append-nil (flush o p))

      by : (a : Act R E P) → act h.ref u ≡ a → Again → Along (EntryOf L F frame s) (entries_by (λ h'. entries_of L next h' us) h next a) ls
      by (keep r) z again = silent (keep r) z r p h.pending refl w.counted again
      by (clear r) z again = silent (clear r) z r [] 0 refl refl again
      by (yield o) z again =
          silent (yield o) z h.ref (p ++ (frame (bytes u) o ∷ [])) (suc h.pending) refl (omega (arith, w.counted, length-append p (frame (bytes u) o ∷ []))) again
      by (print o) z again =
          let b = before_goes (flush o p) (run L F frame h.ref [] us) ls r' p' (sym (run_act L F frame u us h.ref p (print o) z) ∙ q) in
          subst (Along (EntryOf L F frame s) (entry_at h next h.pending ++ entries_of L next (hand_at next h.ref) us)) b.2
          (along_append
          (at_print next h pre f.rest (bs ++ u ∷ []) h.pending o p h.ref w.began there whole (front_divides L firm (bs ++ u ∷ []) us d') w.counted (printed o z))
          (again [] c f.rest next (hand_at next h.ref) [] b.0 (record { here = omega (arith, there); began = there; counted = refl; ran = refl }) whole f.behind b.1))
      by (outside k) z again = absurd (leaves≢goes (sym (run_act L F frame u us h.ref p (outside k) z) ∙ q))

  -- ---- what a walk opens first is the first label that it answers
  first_label : (i : ℕ) (t : List ℕ) (p : List F) (x : Trace E P) (l : Label F P) (ls : List (Label F P)) → labels_in L F frame t p x ≡ l ∷ ls → first_in L F frame i t p x ≡ opens l
  first_label i t p (stops n) l ls e = let z : ◌≡◌ {A = ℕ} 0 1 = cc in absurd (omega arith)
  first_label i t p (refuses n k) l ls e = let z : ◌≡◌ {A = ℕ} 0 1 = cc in absurd (omega arith)
  first_label i t p (yields o x) l ls e = first_label i t (p ++ (frame t o ∷ [])) x l ls e
  first_label i t p (clears x) l ls e = first_label i t [] x l ls e
  first_label i t p (prints n o x) l ls e = let k : record { count = n; says = o; frames = p } ≡ l = cc in ap opens k

  opens_found : (i : ℕ) (e : Entry R) (l : Label F P) → EntryOf L F frame s e l → opening_found L F frame i s (some e) ≡ opens l
  opens_found i e l w =
      let t = take e.upto s in
      let x = trace L t (state e.from e.start 0) in
      simp (le-ltb (length s) e.upto w.inside, le-ltb e.upto e.from w.ordered) (first_label i t [] x l [] (ending_listed (final x) (labels_in L F frame t [] x) (l ∷ []) 0 w.alone).1)

  pub indexed : (r : R) (ls : List (Label F P)) (n : ℕ) → Divides L F frame s r ls n → Indexed L F frame r s ls
  indexed r ls n d = record {
    matched = m;
    as_many = along_length m;
    opened = λ i l e. (let a = along_at m i l e in small i ∙ ap (opening_found L F frame i s) a.1 ∙ opens_found i a.0 l a.2);
    past = λ i h. small i ∙ ap (opening_found L F frame i s) (element_past (entries L r s) i (omega (arith, h, along_length m)));
  }
    where
      m : Along (EntryOf L F frame s) (entries L r s) ls
      m =
          let g = closed_goes (run L F frame r [] d.units) ls n d.range in
          subst (λ (us : List U). Along (EntryOf L F frame s) (entries_of L 0 (hand_at 0 r) us) ls) (sym (units_division L reads d.division))
          (by_units d.units [] [] s 0 (hand_at 0 r) [] ls g.0 g.1 (record { here = refl; began = refl; counted = refl; ran = refl }) refl d.division g.2)

      small : (i : ℕ) → opening L F frame s (entries L r s) i ≡ opening_found L F frame i s (get_elem? (entries L r s) i)
      small i = simp (le-ltb 16777216 (length s) short)
