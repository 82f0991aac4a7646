-- What is due to a call that fills a list, as code has it: the labels of a file that is not refused are counted by the
-- prints of its walk, and its entries can be made one behind the other. Assumes nothing.
use mathlib.Core.Path.{◌≡◌, refl, ap, ◌∙◌}
use mathlib.Core.List.{List, [], ◌∷◌, ◌++◌}
use Prim.Native.Nat.{ℕ, suc, ◌≤◌}
use lib.ListN.{length}
use Rattle.elements.specs.Given.{longest}
use Rattle.walk_theory.specs.Language.{Language}
use Rattle.walk_theory.specs.Division.{Reads, Firm}
use Rattle.walk_theory.specs.Labels.{Label, Divides}
use Rattle.walk_theory.specs.Step.{state}
use Rattle.walk_theory.specs.Reach.{accepted}
use Rattle.walk_theory.specs.Trace.{Trace, stops, refuses, yields, clears, prints, ending, listed, final, prints_in, trace, labels_in, outcome}
use Rattle.walk_theory.specs.Index.{entries}
use Rattle.walk_theory.specs.Next.{Unrefused}
use Rattle.walk_theory.proofs.OutcomeLaws.{listed_short, listed→divides}
use Rattle.walk_theory.proofs.UnrefusedLaws.{unrefused_of}
use Rattle.walk_theory.proofs.Index.{indexed}

module _ (L : Language) (F : Type 0) (frame : List ℕ → L.E → F) where
  open L use {E, P}

  pub length_labels : (s : List ℕ) (p : List F) (t : Trace E P) → length (labels_in L F frame s p t) ≡ prints_in t
  length_labels s p (stops n) = refl
  length_labels s p (refuses n k) = refl
  length_labels s p (yields e t) = length_labels s (p ++ (frame s e ∷ [])) t
  length_labels s p (clears t) = length_labels s [] t
  length_labels s p (prints n q t) = ap suc (length_labels s [] t)

module _ (L : Language) (reads : Reads L) (s : List ℕ) (r : L.R) (n : ℕ) (ends : final (trace L s (state 0 r 0)) ≡ accepted n) where
  open L use {E, P}

  -- frames do not matter here
  abbrev blank : List ℕ → E → Unit {0}
  blank t e = tt

  abbrev ls : List (Label Unit P)
  ls = labels_in L Unit blank s [] (trace L s (state 0 r 0))

  lists : outcome L Unit blank s (state 0 r 0) ≡ listed ls n
  lists = ap (λ f. ending f ls) ends

  divides : Divides L Unit blank s r ls n
  divides = listed→divides L reads Unit blank (λ _ _ _ _ _ _. refl) s r ls n lists

  pub accepted_short : length s ≤ longest
  accepted_short = listed_short L reads Unit blank s (state 0 r 0) ls n lists

  pub accepted_unrefused : Unrefused L s r
  accepted_unrefused = unrefused_of L reads Unit blank s r ls n divides

  pub entries_counted : Firm L → length (entries L r s) ≡ prints_in (trace L s (state 0 r 0))
  entries_counted firm = (indexed L reads firm Unit blank (λ _ _ _ _ _ _. refl) s accepted_short r ls n divides).as_many ∙ length_labels L Unit blank s [] (trace L s (state 0 r 0))
