-- What the normaliser's program prints, whatever was read, is the normalised text (`never_15`): its buffer is never too
-- short (`normalised_room`). Assumes nothing.
use mathlib.Core.Path.{◌≡◌, ap}
use mathlib.Core.List.{List}
use Prim.Native.Nat.{ℕ, ◌+◌, ◌/◌, ◌≤◌}
use native.Mathlib.Omega.{arith}
use lib.ListN.{length}
use Rattle.elements.specs.Given.{text, longest}
use Rattle.elements.proofs.GivenLaws.{within_short}
use Rattle.grammar.specs.Normal.{normalised}
use Rattle.grammar.proofs.NormalLaws.{length_normalised_le}
use Rattle.format.specs.Normalise.{due_of}
use Rattle.file_listing.specs.Printing.{shown_for}
use Rattle.file_listing.proofs.PrintingProgramLaws.{Room}

due_text : (s : List ℕ) → length s ≤ 65536 → due_of s ≡ text (normalised s)
due_text s h = within_short longest s (text (normalised s)) (omega arith)

-- n + n/6 + 1 bytes for the longest input are room for any normalised text: 15 is never printed
pub normalised_room : (s : List ℕ) → length s ≤ 65536 → Room (65536 + 65536 / 6 + 1) (due_of s)
normalised_room s h t e = let n = due_text s h in let k : normalised s ≡ t = cc in omega (arith, length_normalised_le s, ap length k)

pub never_15 : (s : List ℕ) → length s ≤ 65536 → shown_for s (due_of s) ≡ normalised s
never_15 s h = rw (within_short 65536 s (due_of s) h, due_text s h)
