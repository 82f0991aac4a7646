-- The label index, of functions that meet the contracts: what a refused call leaves and when it is refused as 14
-- (`index_keeps`, `open_keeps`, `long_index`, `long_open`), what `index` gives and each of its entries opens
-- (`indexing`, `unfilled_by`), and what opening any entry does, by the steps (`opening`). Assumes nothing.
use mathlib.Core.Path.{◌≡◌, refl, sym, ap, subst, ◌∙◌}
use mathlib.Core.List.{List, [], ◌∷◌, ◌++◌}
use mathlib.Core.Logic.{◌⊎◌, inl, inr}
use mathlib.Core.Option.{some}
use Prim.Native.Nat.{ℕ, zero, suc, ◌+◌, ◌≤◌, ◌<◌}
use native.Mathlib.Omega.{arith}
use lib.Dec.{ltb}
use lib.ListN.{length, take, drop, get_elem?, get_or}
use lib.Seq.{sets-eq}
use borrow.Author.Tests.{ltb-true, ltb-false, lt-ltb, le-ltb}
use Rattle.text.proofs.BoolLaws.{test}
use Rattle.elements.specs.declared.filled.Filled.TheVariants as filled_as
use Rattle.elements.specs.declared.refusal.Refusal.{Refusal}
use Rattle.elements.specs.declared.walk_state.WalkState.{WalkState}
use Rattle.elements.specs.Given.{Due, text, denied, longest}
use Rattle.elements.specs.Walk.{fresh}
use Rattle.frame_bytes.specs.Frame.{frame_of}
use Rattle.walk_theory.specs.Index as theory
use Rattle.walk_theory.specs.Index.{Along, filled, unfilled, opens, denies, into, indexing_by, entries, first_in, EntryOf, Indexed}
use Rattle.walk_theory.specs.Reach.{Final, accepted, refusal}
use Rattle.walk_theory.specs.Trace.{final, on_answer, trace}
use Rattle.walk_theory.proofs.TraceLaws.{trace_is}
use Rattle.grammar.specs.Epl.{epl, origin}
use Rattle.grammar.proofs.FoundLaws.{reads}
use Rattle.walk.specs.declared.answer.Answer.{Answer}
use Rattle.walk.specs.declared.answer.Answer.TheVariants.{Element, Clear, Print, End, Refused}
use Rattle.walk.specs.Steps.{state_of, answer_of}
use Rattle.file_listing.specs.Listing.{FramedLabel}
use Rattle.label_index.specs.declared.entry.LabelEntry.{LabelEntry}
use Rattle.label_index.specs.declared.labels.Indexed.TheVariants as indexed
use Rattle.label_index.specs.Entries.{EplEntry, entries_of, entries_from, no_entry}
use Rattle.label_index.specs.Plan.{Counted, EplFilling, counted, refused, counted_of, filling_of, Indexes}
use Rattle.label_opening.specs.Opened.{FramedOpening, opening_due, due_of, entry_due}
use Rattle.label_opening.proofs.FirstLaws.{due_found, entry_long, entry_past, entry_beyond, entry_backwards, entry_walked}
use Rattle.laddertick.specs.HostContracts.{Library, Entering, Denies, Gives, DeniesList, GivesEntries}
use Rattle.laddertick.specs.Walked.{Next, on_from, over, next, Walked, stop, go_on, answered}
use Rattle.laddertick.specs.Claims as claims
use Rattle.laddertick.specs.Claims.{Indexing, Opens}
use Rattle.laddertick.proofs.ContractsLaws as calls

-- ---- a call that fills the list l, by what is due to it
counted≢refused : {n k p : ℕ} → ◌≡◌ {A = Counted} (counted n) (refused k p) → ⊥
counted≢refused e = let z : ◌≡◌ {A = ℕ} 0 1 = cc in omega arith

module _ (l : List LabelEntry) (c : Entering) where
  keeps : (f : EplFilling) (k : Refusal) (p : ℕ) → c.answer ≡ indexed.Refused k p → Indexes c.list l f (counted_of c.answer) → c.list ≡ l
  keeps (filled es) k p h x = absurd (counted≢refused (sym x.answer ∙ ap counted_of h))
  keeps (unfilled n q) k p h x = x.list

  denies_list : {n p : ℕ} (f : EplFilling) → f ≡ unfilled n p → Indexes c.list l f (counted_of c.answer) → DeniesList n p l c
  denies_list f e x = let y = subst (λ (g : EplFilling). Indexes c.list l g (counted_of c.answer)) e x in (y.answer, y.list)

  length_from : (es : List EplEntry) → length (entries_from es) ≡ length es
  length_from [] = refl
  length_from (e ∷ es) = ap suc (length_from es)

  gives_entries : (es : List EplEntry) → Indexes c.list l (into (length l) (filled es)) (counted_of c.answer) → GivesEntries (entries_from es) l c
  gives_entries es x =
      let n = length_from es in
      record {
        room = λ h.
            let y = simp (le-ltb (length l) (length es) (omega (arith, n, h))) at x in
            let z : 0 + length (entries_from es) ≡ length (entries_from es) = omega arith in
            (y.answer ∙ ap counted (sym n), y.list ∙ sets-eq (entries_from es) l 0 (omega (arith, h)) ∙ ap (λ (k : ℕ). entries_from es ++ drop k l) z);
        short = λ h.
            let y = simp (lt-ltb (length l) (length es) (omega (arith, n, h))) at x in
            (y.answer ∙ ap (refused 20) (sym n), y.list);
      }

-- ---- entries as the theory has them
pub from_of : (es : List EplEntry) → entries_of (entries_from es) ≡ es
from_of [] = refl
from_of (e ∷ es) = λ i. e ∷ from_of es i

-- the entry with a number
some_at : (es : List LabelEntry) (i : ℕ) (e : LabelEntry) → get_elem? es i ≡ some e → (i < length es) × (get_or es i no_entry ≡ e)
some_at [] i e h = absurd (let z : ◌≡◌ {A = ℕ} 0 1 = cc in omega arith)
some_at (x ∷ es) zero e h = (omega arith, cc)
some_at (x ∷ es) (suc i) e h = let k = some_at es i e h in (omega (arith, k.0), k.1)

-- ---- the first label of a walk, by the steps
-- of the labels that a walk answers and how it ends
abbrev first_of : ℕ → List FramedLabel → Final → FramedOpening
first_of i (f ∷ fs) z = opens f
first_of i [] (accepted n) = denies 21 i
first_of i [] (refusal n p) = denies n p

on≢over : {w : WalkState} {z : Final} → ◌≡◌ {A = Next} (on_from w) (over z) → ⊥
on≢over e = let z : ◌≡◌ {A = ℕ} 0 1 = cc in omega arith

same_over : {y z : Final} → ◌≡◌ {A = Next} (over y) (over z) → y ≡ z
same_over e = cc

same_on : {v w : WalkState} → ◌≡◌ {A = Next} (on_from v) (on_from w) → v ≡ w
same_on e = cc

module _ (library : Library) (s : List ℕ) (i : ℕ) where
  abbrev First : List (List ℕ) → WalkState → List FramedLabel → Final → Type 0
  First p w ls z = first_in epl (List ℕ) frame_of i s p (trace epl s (state_of w)) ≡ first_of i ls z

  trace_by : (w : WalkState) (a : Answer) → library.step s w ≡ a → trace epl s (state_of w) ≡ on_answer epl (trace epl s) (answer_of a)
  trace_by w a e = trace_is epl reads s (state_of w) ∙ ap (on_answer epl (trace epl s)) (sym (library.steps s w) ∙ ap answer_of e)

  first_walked : {w : WalkState} {xs : List Answer} {z : Final} → Walked (library.step s) w xs z → (p : List (List ℕ)) → First p w (answered s p xs) z
  first_walked (stop {w} {z} h) p = by (library.step s w) refl
    where
      by : (a : Answer) → library.step s w ≡ a → First p w [] z
      by (Element v e) k = absurd (on≢over (sym (ap next k) ∙ h))
      by (Clear v) k = absurd (on≢over (sym (ap next k) ∙ h))
      by (Print v q) k = absurd (on≢over (sym (ap next k) ∙ h))
      by (End v) k = ap (first_in epl (List ℕ) frame_of i s p) (trace_by w (End v) k) ∙ ap (first_of i []) (same_over (sym (ap next k) ∙ h))
      by (Refused v n q) k = ap (first_in epl (List ℕ) frame_of i s p) (trace_by w (Refused v n q) k) ∙ ap (first_of i []) (same_over (sym (ap next k) ∙ h))
  first_walked (go_on {w} {w'} {xs} {z} h b) p = by (λ q. first_walked b q) (library.step s w) refl
    where
      by : ((q : List (List ℕ)) → First q w' (answered s q xs) z) → (a : Answer) → library.step s w ≡ a → First p w (answered s p (library.step s w ∷ xs)) z
      by on (Element v e) k =
          let v-is = same_on (sym (ap next k) ∙ h) in
          ap (first_in epl (List ℕ) frame_of i s p) (trace_by w (Element v e) k)
          ∙ ap (λ (x : WalkState). first_in epl (List ℕ) frame_of i s (p ++ (frame_of s e ∷ [])) (trace epl s (state_of x))) v-is
          ∙ on (p ++ (frame_of s e ∷ []))
          ∙ ap (λ (x : Answer). first_of i (answered s p (x ∷ xs)) z) (sym k)
      by on (Clear v) k =
          let v-is = same_on (sym (ap next k) ∙ h) in
          ap (first_in epl (List ℕ) frame_of i s p) (trace_by w (Clear v) k)
          ∙ ap (λ (x : WalkState). first_in epl (List ℕ) frame_of i s [] (trace epl s (state_of x))) v-is
          ∙ on []
          ∙ ap (λ (x : Answer). first_of i (answered s p (x ∷ xs)) z) (sym k)
      by on (Print v q) k = ap (first_in epl (List ℕ) frame_of i s p) (trace_by w (Print v q) k) ∙ ap (λ (x : Answer). first_of i (answered s p (x ∷ xs)) z) (sym k)
      by on (End v) k = absurd (on≢over (sym h ∙ ap next k))
      by on (Refused v n q) k = absurd (on≢over (sym h ∙ ap next k))

-- ---- the claims
module _ (library : Library) where
  pub index_keeps : (s : List ℕ) (l : List LabelEntry) (k : Refusal) (p : ℕ) → (library.index s l).answer ≡ indexed.Refused k p → (library.index s l).list ≡ l
  index_keeps s l k p h = keeps l (library.index s l) (filling_of s (length l)) k p h (library.indexes s l)

  pub open_keeps : (s : List ℕ) (es : List LabelEntry) (i : ℕ) (l : List ℕ) (k : Refusal) (p : ℕ) → (library.open_label s es i l).answer ≡ filled_as.Refused k p → (library.open_label s es i l).buffer ≡ l
  open_keeps s es i l k p h = calls.keeps (due_of s es i) l (library.open_label s es i l) k p h (library.opens s es i l)

  -- what a refused walk leaves
  pub unfilled_by : (s : List ℕ) (l : List LabelEntry) (n p : ℕ) → final (trace epl s (state_of fresh)) ≡ refusal n p → DeniesList n p l (library.index s l)
  unfilled_by s l n p e = denies_list l (library.index s l) (filling_of s (length l)) (ap (λ (f : Final). into (length l) (indexing_by (entries epl origin s) f)) e) (library.indexes s l)

  pub long_index : (s : List ℕ) (l : List LabelEntry) → longest < length s → DeniesList 14 0 l (library.index s l)
  long_index s l h = unfilled_by s l 14 0 (ap final (calls.trace_long s h))

  module _ (s : List ℕ) (es : List LabelEntry) (i : ℕ) where
    denied_at : {n p : ℕ} → due_of s es i ≡ denied n p → (l : List ℕ) → Denies n p l (library.open_label s es i l)
    denied_at e l = calls.denies (due_of s es i) l (library.open_label s es i l) e (library.opens s es i l)

    gives_at : {t : List ℕ} → due_of s es i ≡ text t → (l : List ℕ) → Gives t l (library.open_label s es i l)
    gives_at {t} e l = calls.gives (due_of s es i) l (library.open_label s es i l) t e (library.opens s es i l)

    pub long_open : (l : List ℕ) → longest < length s → Denies 14 0 l (library.open_label s es i l)
    long_open l h = denied_at (sym (due_found s es i) ∙ entry_long s (length es) i (get_or es i no_entry) h) l

    opens_by : (ls : List FramedLabel) (z : Final) → due_of s es i ≡ opening_due (first_of i ls z) → (l : List ℕ) → Opens ls z i l (library.open_label s es i l)
    opens_by (f ∷ fs) z e l = gives_at e l
    opens_by [] (accepted n) e l = denied_at e l
    opens_by [] (refusal n p) e l = denied_at e l

    module _ (short : length s ≤ longest) where
      -- what is due for the entry e with this number
      found : (e : LabelEntry) → get_elem? es i ≡ some e → {d : Due} → (i < length es → entry_due s (length es) i e ≡ d) → due_of s es i ≡ d
      found e h k = let a = some_at es i e h in sym (due_found s es i) ∙ ap (entry_due s (length es) i) a.1 ∙ k a.0

      outside_by : (e : LabelEntry) → (length s < e.last) ⊎ (e.last < e.first) → i < length es → entry_due s (length es) i e ≡ denied 16 e.last
      outside_by e (inl h) k = entry_beyond s (length es) i e short k h
      outside_by e (inr h) k = test (ltb (length s) e.last) (λ b. entry_beyond s (length es) i e short k (ltb-true _ _ b)) (λ b. entry_backwards s (length es) i e short k (ltb-false _ _ b) h)

      pub opening : claims.Opening library s es i
      opening = record {
        past = λ h. denied_at (sym (due_found s es i) ∙ entry_past s (length es) i (get_or es i no_entry) short h);
        outside = λ e h o. denied_at (found e h (outside_by e o));
        walks = λ e h a b xs z w. opens_by (answered (take e.last s) [] xs) z (found e h (λ k. entry_walked s (length es) i e short k a b ∙ ap opening_due (first_walked library (take e.last s) i w [])));
      }

  -- of a string that the theory's index is that of these labels
  pub indexing : (s : List ℕ) (ls : List FramedLabel) (n : ℕ) → final (trace epl s (state_of fresh)) ≡ accepted n → Indexed epl (List ℕ) frame_of origin s ls → Indexing library s ls
  indexing s ls n e x =
      let es = entries epl origin s in
      record {
        entries = entries_from es;
        gives = λ l. gives_entries l (library.index s l) es (subst (λ (f : Final). Indexes (library.index s l).list l (into (length l) (indexing_by es f)) (counted_of (library.index s l).answer)) e (library.indexes s l));
        as_many = length_from [] (library.index s []) es ∙ x.as_many;
        matched = subst (λ (y : List EplEntry). Along (EntryOf epl (List ℕ) frame_of s) y ls) (sym (from_of es)) x.matched;
        opened = λ i f h. gives_at s (entries_from es) i (ap (λ (y : List EplEntry). opening_due (theory.opening epl (List ℕ) frame_of s y i)) (from_of es) ∙ ap opening_due (x.opened i f h));
      }

  pub indexing_entries : (s : List ℕ) (ls : List FramedLabel) (n : ℕ) (e : final (trace epl s (state_of fresh)) ≡ accepted n) (x : Indexed epl (List ℕ) frame_of origin s ls) → (indexing s ls n e x).entries ≡ entries_from (entries epl origin s)
  unfolding indexing
  indexing_entries s ls n e x = refl
