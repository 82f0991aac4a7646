-- What is due to `strict_list` by the verdict on the file: 17 and 18 are denied as they are (`own_due`), else the plain
-- listing or the plain refusal is due (`plain_due_lem`). Assumes nothing.
use mathlib.Core.Path.{◌≡◌, sym, ap, subst}
use mathlib.Core.List.{List, []}
use mathlib.Core.Logic.{inl, inr}
use Prim.Native.Nat.{ℕ, ◌<◌}
use native.Mathlib.Omega.{arith}
use Rattle.elements.specs.Given.{denied}
use Rattle.elements.specs.Walk.{fresh}
use Rattle.frame_bytes.specs.Frame.{frame_of}
use Rattle.walk_theory.specs.Reach.{Final, accepted, refusal}
use Rattle.walk_theory.specs.Trace.{ending, trace, final, labels_in}
use Rattle.walk_theory.specs.Strict.{Along}
use Rattle.grammar.specs.Epl.{epl}
use Rattle.walk.specs.Steps.{EplTrace, state_of, trace_of}
use Rattle.file_listing.specs.Listing.{FramedLabel, listing_due, due_of}
use Rattle.profile.specs.Strict.{strict, Own}
use Rattle.profile.proofs.StrictLaws.{along}
use Rattle.strict.specs.Verdict.{verdict_of, strict_end, checked_of}
use Rattle.strict.specs.Listing.{strict_due_of}

module _ (s : List ℕ) where
  -- a refusal is denied with its number and place
  denied_by : (f : Final) (ls : List FramedLabel) (n : ℕ) → 0 < n → (verdict_of s f).number ≡ n → listing_due (ending f ls) ≡ denied n (verdict_of s f).place
  denied_by (accepted m) ls n h e = absurd (omega arith)
  denied_by (refusal m p) ls n h e = ap (λ (x : ℕ). denied x p) e

  pub own_due : (n : ℕ) → 0 < n → (checked_of s).number ≡ n → strict_due_of s ≡ denied n (checked_of s).place
  own_due n h e = denied_by (strict_end s) (labels_in strict (List ℕ) frame_of s [] (trace strict s (state_of fresh))) n h e

  pub plain_due_lem : (Own (checked_of s).number → ⊥) → strict_due_of s ≡ due_of s
  plain_due_lem n = by (along s (state_of fresh))
    where
      by : Along Own (trace_of s fresh) (trace strict s (state_of fresh)) → strict_due_of s ≡ due_of s
      by (inl e) = ap (λ (t : EplTrace). listing_due (ending (final t) (labels_in epl (List ℕ) frame_of s [] t))) (sym e)
      by (inr h) = absurd (n (subst Own (sym (ap (λ (f : Final). (verdict_of s f).number) h.3)) h.2))
