-- The label index: an entry for each label in print order, and what opening one answers.
use Rattle.std.specs.Prelude.{◌≡◌, cond, ◌||◌, List, [], ◌∷◌, ◌++◌, ℕ, zero, suc, ◌+◌, ◌≤◌, ltb, length, take}
use Rattle.std.proofs.Math.Option.{Option, none, some}
use Rattle.std.proofs.Math.ListN.{get_elem?}
use Rattle.elements.specs.Given.{longest}
use Rattle.walk_theory.specs.Language.{Act, keep, clear, yield, print, outside, Language}
use Rattle.walk_theory.specs.Division.{units_of}
use Rattle.walk_theory.specs.Labels.{Label}
use Rattle.walk_theory.specs.Step.{state}
use Rattle.walk_theory.specs.Trace.{Trace, stops, refuses, yields, clears, prints}
use Rattle.walk_theory.specs.Reach.{Final, accepted, refusal}
use Rattle.walk_theory.specs.Trace.{listed, final, trace, outcome}

-- two lists whose elements go together one by one
pub data Along {A B : Type 0} (Q : A → B → Type 0) : List A → List B → Type 0 where
  along_nil : Along Q [] []
  along_cons : {a : A} {b : B} {xs : List A} {ys : List B} → Q a b → Along Q xs ys → Along Q (a ∷ xs) (b ∷ ys)

-- "An entry holds first and last place, element count, and the reference point at its start"
pub record Entry (R : Type 0) : Type 0 where
  pub from : ℕ
  pub upto : ℕ
  pub count : ℕ
  pub start : R

-- the label at hand: where it starts and with which reference; the reference now, and how many elements are pending
pub record Hand (R : Type 0) : Type 0 where
  pub from : ℕ
  pub start : R
  pub ref : R
  pub pending : ℕ

abbrev pub hand : {R : Type 0} → ℕ → R → R → ℕ → Hand R
hand from start r n = record { from = from; start = start; ref = r; pending = n }

-- just behind a print line, r being the reference there; "or at 0", with the fresh reference
abbrev pub hand_at : {R : Type 0} → ℕ → R → Hand R
hand_at at r = hand at r r 0

-- "one entry a label": none where n elements are none; "its last place is just past its own print line"
abbrev pub entry_at : {R : Type 0} → Hand R → ℕ → ℕ → List (Entry R)
entry_at h upto zero = []
entry_at h upto (suc n) = record { from = h.from; upto = upto; count = suc n; start = h.start } ∷ []

-- at a unit that ends at the place `next`, by what it does; `go` gives the entries after it. "An entry starts just
-- after the print line before it, one that printed nothing included"
abbrev pub entries_by : {R E P : Type 0} → (Hand R → List (Entry R)) → Hand R → ℕ → Act R E P → List (Entry R)
entries_by go h next (keep r) = go (hand h.from h.start r h.pending)
entries_by go h next (clear r) = go (hand h.from h.start r 0)
entries_by go h next (yield e) = go (hand h.from h.start h.ref (suc h.pending))
entries_by go h next (print q) = entry_at h next h.pending ++ go (hand_at next h.ref)
entries_by go h next (outside k) = []

-- "Fill a list lent by the host .. and answer the label count": the entries, which are as many, or a refusal
pub data Filling (R : Type 0) : Type 0 where
  filled : List (Entry R) → Filling R
  unfilled : ℕ → ℕ → Filling R

-- by the end that the walk of the file reaches
abbrev pub indexing_by : {R : Type 0} → List (Entry R) → Final → Filling R
indexing_by es (accepted n) = filled es
indexing_by es (refusal k p) = unfilled k p

-- into a list of m entries: "20 more labels than entries (place: the label count), after all refusals of the file"
abbrev pub into : {R : Type 0} → ℕ → Filling R → Filling R
into m (filled es) = cond (ltb m (length es)) (unfilled 20 (length es)) (filled es)
into m (unfilled k p) = unfilled k p

-- what opening answers: the first label, or a refusal
pub data Opening (F P : Type 0) : Type 0 where
  opens : Label F P → Opening F P
  denies : ℕ → ℕ → Opening F P

module _ (L : Language) where
  open L use {U, R, E, P, bytes, act}

  -- the entries of units from the place `at` on
  abbrev pub entries_of : ℕ → Hand R → List U → List (Entry R)
  entries_of at h [] = []
  entries_of at h (u ∷ us) =
      entries_by (λ h'. entries_of (at + length (bytes u)) h' us) h (at + length (bytes u)) (act h.ref u)

  -- "one entry a label in print order", r being the fresh reference
  abbrev pub entries : R → List ℕ → List (Entry R)
  entries r s = entries_of 0 (hand_at 0 r) (units_of L s)

  -- the entries of a file, or its refusal
  abbrev pub indexing : R → List ℕ → Filling R
  indexing r s = indexing_by (entries r s) (final (trace L s (state 0 r 0)))

  -- what is due to a call that fills a list of m entries
  abbrev pub filling : R → List ℕ → ℕ → Filling R
  filling r s m = into m (indexing r s)

  module _ (F : Type 0) (frame : List ℕ → E → F) where
    -- "answers the first label, reading nothing past its print", p being pending; 21 "last where the entry yields no
    -- label", i being its number
    abbrev pub first_in : ℕ → List ℕ → List F → Trace E P → Opening F P
    first_in i s p (stops n) = denies 21 i
    first_in i s p (refuses n k) = denies n k
    first_in i s p (yields e t) = first_in i s (p ++ (frame s e ∷ [])) t
    first_in i s p (clears t) = first_in i s [] t
    first_in i s p (prints n q t) = opens (record { count = n; says = q; frames = p })

    -- "it walks the file, cut at the last place, from the first place with the entry's reference and nothing pending";
    -- "An entry made otherwise gets 16 (place: its last place) if that is past the end or before its first"
    abbrev pub opening_by : ℕ → List ℕ → Entry R → Opening F P
    opening_by i s e =
        cond (ltb (length s) e.upto || ltb e.upto e.from) (denies 16 e.upto)
        (first_in i (take e.upto s) [] (trace L (take e.upto s) (state e.from e.start 0)))

    abbrev pub opening_found : ℕ → List ℕ → Option (Entry R) → Opening F P
    opening_found i s none = denies 21 i
    opening_found i s (some e) = opening_by i s e

    -- "Opening takes the filled part of the list and a number from 0"; "21 an entry number past the last label (place:
    -- the number) .. directly after 14"
    abbrev pub opening : List ℕ → List (Entry R) → ℕ → Opening F P
    opening s es i = cond (ltb longest (length s)) (denies 14 0) (opening_found i s (get_elem? es i))

    -- the entry e of the string s is that of the label l
    pub record EntryOf (s : List ℕ) (e : Entry R) (l : Label F P) : Type 0 where
      pub ordered : e.from ≤ e.upto
      pub inside : e.upto ≤ length s
      pub counted : e.count ≡ l.count
      -- the walk that opens it answers this label and then the end, with nothing pending
      pub alone : outcome L F frame (take e.upto s) (state e.from e.start 0) ≡ listed (l ∷ []) 0

    -- of an accepted string with the labels ls
    pub record Indexed (r : R) (s : List ℕ) (ls : List (Label F P)) : Type 0 where
      -- "one entry a label in print order"
      pub matched : Along (EntryOf s) (entries r s) ls
      pub as_many : length (entries r s) ≡ length ls
      -- "Any label read from its entry alone gives the frames that the full listing has for it"
      pub opened : (i : ℕ) (l : Label F P) → get_elem? ls i ≡ some l → opening s (entries r s) i ≡ opens l
      -- "21 an entry number past the last label (place: the number)"
      pub past : (i : ℕ) → length ls ≤ i → opening s (entries r s) i ≡ denies 21 i
