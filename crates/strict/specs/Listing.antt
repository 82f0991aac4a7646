-- The listing under the profile (01, "The well-site profile"): what the strict walk of an input lists.
use Rattle.std.specs.Prelude.{List, ℕ}
use Rattle.elements.specs.Given.{Due}
use Rattle.elements.specs.Walk.{fresh}
use Rattle.frame_bytes.specs.Frame.{frame_of}
use Rattle.walk_theory.specs.Trace.{outcome}
use Rattle.walk.specs.Steps.{state_of}
use Rattle.file_listing.specs.Listing.{FramedOutcome, listing_due}
use Rattle.profile.specs.Strict.{strict}

abbrev pub strict_outcome_of : List ℕ → FramedOutcome
strict_outcome_of s = outcome strict (List ℕ) frame_of s (state_of fresh)

-- what is due to `strict_list`
abbrev pub strict_due_of : List ℕ → Due
strict_due_of s = listing_due (strict_outcome_of s)
