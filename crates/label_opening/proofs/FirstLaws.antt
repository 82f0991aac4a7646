-- The first label of a walk, by the elements that lead to its print (`first_by`); and the opening of an entry that was
-- found, by where its walk starts (`started`, `start_at_lem`), with what is due for it as the tests go (`due_found`,
-- `entry_long`, ..). Assumes nothing.
use mathlib.Core.Path.{◌≡◌, refl, sym, ap, ◌∙◌}
use mathlib.Core.Bool.{Bool, true, false, cond, ◌||◌}
use mathlib.Core.Option.{none, some}
use mathlib.Core.List.{List, [], ◌∷◌, ◌++◌, append_assoc, append-nil}
use Prim.Native.Nat.{ℕ, zero, suc, ◌≤◌, ◌<◌}
use native.Mathlib.Omega.{arith}
use lib.Dec.{ltb}
use lib.ListN.{length, take, get_or, get_elem?}
use borrow.Author.Tests.{lt-ltb, le-ltb, ltb-true, ltb-false}
use Rattle.frame_bytes.specs.Frame.{frame_of}
use Rattle.elements.specs.Given.{denied, longest}
use Rattle.elements.specs.declared.LabelElement.{LabelElement}
use Rattle.elements.specs.declared.refusal.Refusal.TheVariants.{InputTooLong, StateOutside, NoSuchLabel}
use Rattle.elements.specs.declared.walk_state.WalkState.{WalkState}
use Rattle.walk_theory.specs.Trace.{stops, refuses, yields, clears, prints, lead, after}
use Rattle.walk_theory.specs.Index.{denies, first_in, opening_by, opening_found, opening}
use Rattle.grammar.specs.Epl.{epl}
use Rattle.walk.specs.Steps.{EplTrace, trace_of}
use Rattle.label_index.specs.Entries.{entry_of, entries_of, no_entry}
use Rattle.label_index.specs.declared.entry.LabelEntry.{LabelEntry}
use Rattle.label_opening.specs.Opened.{opening_due, due_of, start_at, start_of, first_from, started_opening, first_due, entry_due}
use Rattle.label_opening.specs.declared.start.Start.TheVariants.{At, Denied}

-- ---- the entry with a number
found_at : (es : List LabelEntry) (i : ℕ) → i < length es → get_elem? (entries_of es) i ≡ some (entry_of (get_or es i no_entry))
found_at [] i h = absurd (omega arith)
found_at (e ∷ es) zero h = refl
found_at (e ∷ es) (suc i) h = found_at es i (omega arith)

found_past : (es : List LabelEntry) (i : ℕ) → length es ≤ i → get_elem? (entries_of es) i ≡ none
found_past [] i h = refl
found_past (e ∷ es) zero h = absurd (omega arith)
found_past (e ∷ es) (suc i) h = found_past es i (omega arith)

-- ---- a start lies within the input, with nothing pending
pub start_at_lem : (len n i : ℕ) (e : LabelEntry) (w : WalkState) (last : ℕ) → start_of len n i e ≡ At w last → (last ≤ len) × (w.pending ≡ 0)
start_at_lem len n i e w last = by (ltb longest len) (ltb i n) (ltb len e.last) refl (ltb e.last e.first)
  where
    by : (a b c : Bool) → ltb len e.last ≡ c → (d : Bool)
        → cond a (Denied InputTooLong 0) (cond b (cond (c || d) (Denied StateOutside e.last) (At (start_at e) e.last)) (Denied NoSuchLabel i)) ≡ At w last → (last ≤ len) × (w.pending ≡ 0)
    by true b c q d k = let z : ◌≡◌ {A = ℕ} 0 1 = cc in absurd (omega arith)
    by false false c q d k = let z : ◌≡◌ {A = ℕ} 0 1 = cc in absurd (omega arith)
    by false true true q d k = let z : ◌≡◌ {A = ℕ} 0 1 = cc in absurd (omega arith)
    by false true false q true k = let z : ◌≡◌ {A = ℕ} 0 1 = cc in absurd (omega arith)
    by false true false q false k = let z : e.last ≡ last = cc in let y : start_at e ≡ w = cc in (omega (arith, z, ltb-false len e.last q), ap (λ (x : WalkState). x.pending) (sym y))

-- what is told of an element may be any
module _ (F : Type 0) (frame : List ℕ → LabelElement → F) where
  -- ---- the first label, by what follows the elements that a walk begins with
  first_after : (i : ℕ) (s : List ℕ) (p : List F) (t : EplTrace) → first_in epl F frame i s p t ≡ first_in epl F frame i s (p ++ lead epl F frame s t) (after t)
  first_after i s p (stops n) = refl
  first_after i s p (refuses n k) = refl
  first_after i s p (yields e t) =
      first_after i s (p ++ (frame s e ∷ [])) t
      ∙ ap (λ (q : List F). first_in epl F frame i s q (after t)) (append_assoc p (frame s e ∷ []) (lead epl F frame s t))
  first_after i s p (clears t) = refl
  first_after i s p (prints n q t) = ap (λ (x : List F). first_in epl F frame i s x (prints n q t)) (sym (append-nil p))

  pub first_by : (s : List ℕ) (i : ℕ) (w : WalkState) (t : EplTrace) → after (trace_of s w) ≡ t → first_from F frame s w i ≡ first_in epl F frame i s (lead epl F frame s (trace_of s w)) t
  first_by s i w t e = first_after i s [] (trace_of s w) ∙ ap (first_in epl F frame i s (lead epl F frame s (trace_of s w))) e

  -- ---- the opening of the entry that was found
  by_tests : (a b c : Bool) (s : List ℕ) (i : ℕ) (e : LabelEntry)
      → started_opening F frame s i (cond a (Denied InputTooLong 0) (cond b (cond c (Denied StateOutside e.last) (At (start_at e) e.last)) (Denied NoSuchLabel i)))
      ≡ cond a (denies 14 0) (cond b (cond c (denies 16 e.last) (first_from F frame (take e.last s) (start_at e) i)) (denies 21 i))
  by_tests true b c s i e = refl
  by_tests false true true s i e = refl
  by_tests false true false s i e = refl
  by_tests false false c s i e = refl

  pub started : (s : List ℕ) (es : List LabelEntry) (i : ℕ) → started_opening F frame s i (start_of (length s) (length es) i (get_or es i no_entry)) ≡ opening epl F frame s (entries_of es) i
  started s es i =
      by_tests (ltb longest (length s)) (ltb i (length es)) (ltb (length s) e.last || ltb e.last e.first) s i e
      ∙ ap (cond (ltb longest (length s)) (denies 14 0)) (by (ltb i (length es)) refl)
    where
      e : LabelEntry
      e = get_or es i no_entry

      by : (b : Bool) → ltb i (length es) ≡ b → cond b (opening_by epl F frame i s (entry_of e)) (denies 21 i) ≡ opening_found epl F frame i s (get_elem? (entries_of es) i)
      by true k = ap (opening_found epl F frame i s) (sym (found_at es i (ltb-true i (length es) k)))
      by false k = ap (opening_found epl F frame i s) (sym (found_past es i (ltb-false i (length es) k)))

pub due_found : (s : List ℕ) (es : List LabelEntry) (i : ℕ) → entry_due s (length es) i (get_or es i no_entry) ≡ due_of s es i
due_found s es i = ap opening_due (started (List ℕ) frame_of s es i)

-- ---- what is due for an entry, as the tests go
module _ (s : List ℕ) (n i : ℕ) (e : LabelEntry) where
  pub entry_long : longest < length s → entry_due s n i e ≡ denied 14 0
  entry_long h = simp (lt-ltb 16777216 (length s) h)

  module _ (short : length s ≤ longest) where
    pub entry_past : n ≤ i → entry_due s n i e ≡ denied 21 i
    entry_past h = simp (le-ltb 16777216 (length s) short, le-ltb i n h)

    module _ (found : i < n) where
      pub entry_beyond : length s < e.last → entry_due s n i e ≡ denied 16 e.last
      entry_beyond h = simp (le-ltb 16777216 (length s) short, lt-ltb i n found, lt-ltb (length s) e.last h)

      pub entry_backwards : e.last ≤ length s → e.last < e.first → entry_due s n i e ≡ denied 16 e.last
      entry_backwards h k = simp (le-ltb 16777216 (length s) short, lt-ltb i n found, le-ltb (length s) e.last h, lt-ltb e.last e.first k)

      pub entry_walked : e.last ≤ length s → e.first ≤ e.last → entry_due s n i e ≡ first_due (take e.last s) (record { reference = e.reference; pending = 0; place = e.first }) i
      entry_walked h k = simp (le-ltb 16777216 (length s) short, lt-ltb i n found, le-ltb (length s) e.last h, le-ltb e.last e.first k)
