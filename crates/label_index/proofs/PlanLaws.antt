-- What is due to a call that fills a list, as code has it: the count of a walk (`count_is`), the
-- room (`plan_room`), the start (`plan_start`), and what the list becomes (`filled_list`). Assumes nothing.
use mathlib.Core.Path.{◌≡◌, refl, sym, ap, ◌∙◌}
use mathlib.Core.List.{List, [], ◌∷◌, ◌++◌}
use Prim.Native.Nat.{ℕ, suc, ◌+◌, ◌≤◌, ◌<◌}
use native.Mathlib.Nat.{zero-add}
use native.Mathlib.Omega.{arith}
use lib.Dec.{ltb}
use lib.ListN.{length, drop}
use lib.Seq.{sets, sets-eq}
use borrow.Author.Tests.{lt-ltb, le-ltb, ltb-false}
use Rattle.lent_lists.specs.Filled.{made}
use Rattle.text.proofs.BoolLaws.{test}
use Rattle.elements.specs.Walk.{fresh}
use Rattle.walk_theory.specs.Reach.{Final, accepted, refusal}
use Rattle.walk_theory.specs.Trace.{stops, refuses, yields, clears, prints, final, prints_in}
use Rattle.walk_theory.specs.Index.{Entry, filled, unfilled, indexing_by, into, entries}
use Rattle.walk_theory.proofs.IndexingLaws.{accepted_short, accepted_unrefused, entries_counted}
use Rattle.grammar.specs.Epl.{epl, origin}
use Rattle.grammar.proofs.FoundLaws.{reads, firm}
use Rattle.elements.specs.declared.LabelPosition.{LabelPosition}
use Rattle.walk.specs.Steps.{EplTrace, trace_of}
use Rattle.label_index.specs.Entries.{entries_from, begins, next_of, WithinCursor}
use Rattle.label_index.specs.Plan as plan
use Rattle.label_index.specs.Plan.{Counted, counted, refused, EplFilling, list_of, indexing_of, filling_of, todo_of}
use Rattle.label_index.specs.declared.entry.LabelEntry.{LabelEntry}
use Rattle.label_index.proofs.EntryLaws.{made_entries}

-- ---- counting, n labels being counted so far
abbrev pub count_from : ℕ → EplTrace → Counted
count_from n (stops k) = counted n
count_from n (refuses k p) = refused k p
count_from n (yields e t) = count_from n t
count_from n (clears t) = count_from n t
count_from n (prints k q t) = count_from (n + 1) t

abbrev count_by : ℕ → Final → Counted
count_by n (accepted k) = counted n
count_by n (refusal k p) = refused k p

count_trace : (n : ℕ) (t : EplTrace) → count_from n t ≡ count_by (n + prints_in t) (final t)
count_trace n (stops k) = ap counted (omega arith)
count_trace n (refuses k p) = refl
count_trace n (yields e t) = count_trace n t
count_trace n (clears t) = count_trace n t
count_trace n (prints k q t) = count_trace (n + 1) t ∙ ap (λ (m : ℕ). count_by m (final t)) (omega arith)

count_end : (s : List ℕ) (f : Final) → final (trace_of s fresh) ≡ f → count_by (prints_in (trace_of s fresh)) f ≡ plan.answer_of (indexing_by (entries epl origin s) f)
count_end s (accepted n) e = ap counted (sym (entries_counted epl reads s origin n e firm))
count_end s (refusal k p) e = refl

pub count_is : (s : List ℕ) → plan.answer_of (indexing_of s) ≡ count_from 0 (trace_of s fresh)
count_is s =
    sym (count_trace 0 (trace_of s fresh) ∙ ap (λ (m : ℕ). count_by m (final (trace_of s fresh))) (zero-add (prints_in (trace_of s fresh))) ∙ count_end s (final (trace_of s fresh)) refl)

-- ---- a list of m entries
counted_inj : {m n : ℕ} → counted m ≡ counted n → m ≡ n
counted_inj e = cc

refused_inj : {k p l q : ℕ} → refused k p ≡ refused l q → (k ≡ l) × (p ≡ q)
refused_inj e = (cc, cc)

module _ (m : ℕ) where
  -- by what was counted
  pub into_refused : (f : EplFilling) (k p : ℕ) → refused k p ≡ plan.answer_of f → into m f ≡ unfilled k p
  into_refused (filled es) k p e = let z : ◌≡◌ {A = ℕ} 0 1 = cc in absurd (omega arith)
  into_refused (unfilled l q) k p e = let w = refused_inj e in λ i. unfilled (sym w.0 i) (sym w.1 i)

  pub into_short : (f : EplFilling) (n : ℕ) → counted n ≡ plan.answer_of f → m < n → into m f ≡ unfilled 20 n
  into_short (filled es) n e h = let z = counted_inj e in simp (lt-ltb m (length es) (omega (arith, z, h))) (ap (λ (k : ℕ). unfilled 20 k) (sym z))
  into_short (unfilled k p) n e h = let z : ◌≡◌ {A = ℕ} 0 1 = cc in absurd (omega arith)

  pub into_room : (f : EplFilling) (n : ℕ) → counted n ≡ plan.answer_of f → n ≤ m → (plan.answer_of (into m f) ≡ counted n) × (todo_of (into m f) ≡ n)
  into_room (filled es) n e h =
      let z = counted_inj e in
      let l = le-ltb m (length es) (omega (arith, z, h)) in
      (simp l (ap counted (sym z)), simp l (sym z))
  into_room (unfilled k p) n e h = let z : ◌≡◌ {A = ℕ} 0 1 = cc in absurd (omega arith)

-- what is made has room, from a start where nothing is refused, and is what the list becomes
module _ (s : List ℕ) (l : List LabelEntry) where
  room_by : (f : EplFilling) → todo_of (into (length l) f) ≤ length l
  room_by (filled es) = test (ltb (length l) (length es)) (λ e. simp e (omega arith)) (λ e. simp e (ltb-false (length l) (length es) e))
  room_by (unfilled k p) = omega arith

  pub plan_room : todo_of (filling_of s (length l)) ≤ length l
  plan_room = room_by (indexing_of s)

  start_by : (f : Final) → final (trace_of s fresh) ≡ f → 0 < todo_of (into (length l) (indexing_by (entries epl origin s) f)) → WithinCursor s begins
  start_by (accepted n) e h = record { short = accepted_short epl reads s origin n e; inside = omega arith; unrefused = accepted_unrefused epl reads s origin n e }
  start_by (refusal k p) e h = absurd (omega arith)

  pub plan_start : 0 < todo_of (filling_of s (length l)) → WithinCursor s begins
  plan_start = start_by (final (trace_of s fresh)) refl

  abbrev afterwards : ℕ → List LabelEntry
  afterwards n = made (next_of s) (λ c. c.entry) n begins ++ drop n l

  length_from : (es : List (Entry LabelPosition)) → length (entries_from es) ≡ length es
  length_from [] = refl
  length_from (e ∷ es) = ap suc (length_from es)

  put : length (entries epl origin s) ≤ length l → afterwards (length (entries epl origin s)) ≡ sets l 0 (entries_from (entries epl origin s))
  put h =
      let es = entries epl origin s in
      let n = length_from es in
      let k : 0 + length (entries_from es) ≡ length es = omega (arith, n) in
      ap (λ (x : List LabelEntry). x ++ drop (length es) l) (made_entries s (length es) refl)
      ∙ sym (sets-eq (entries_from es) l 0 (omega (arith, n, h)) ∙ ap (λ (j : ℕ). entries_from es ++ drop j l) k)

  list_by : (f : Final) → afterwards (todo_of (into (length l) (indexing_by (entries epl origin s) f))) ≡ list_of (into (length l) (indexing_by (entries epl origin s) f)) l
  list_by (accepted n) = test (ltb (length l) (length (entries epl origin s))) (λ e. simp e) (λ e. simp e (put (ltb-false (length l) (length (entries epl origin s)) e)))
  list_by (refusal k p) = refl

  pub filled_list : afterwards (todo_of (filling_of s (length l))) ≡ list_of (filling_of s (length l)) l
  filled_list = list_by (final (trace_of s fresh))
