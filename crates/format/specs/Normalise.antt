-- What is due to the normaliser (01, "format.rs" and "Who causes which number"); the text itself is `normalised` of the
-- crate `grammar`.
use Rattle.std.specs.Prelude.{◌≡◌, List, ◌++◌, ℕ, ◌<◌, ◌≤◌, length, take, drop}
use Rattle.normal_lines.specs.Lines.{ended}
use Rattle.elements.specs.Given.{Due, text, within, longest}
use Rattle.grammar.specs.Found.{text_line}
use Rattle.grammar.specs.Normal.{chunk, written, normalised}

-- what is due to `normalise`: "The normaliser knows 14 and 15 only"
abbrev pub due_of : List ℕ → Due
due_of s = within longest s (text (normalised s))

-- ---- the parts
-- the first n bytes of s are the block that stands first in it, or n is 0 and a line is taken
pub record Blocks (s : List ℕ) (n : ℕ) : Type 0 where
  pub line : n ≡ 0 → chunk s ≡ text_line s
  pub block : 0 < n → (go : List ℕ → List ℕ) → written (chunk s) go ≡ ended (take n s) ++ go (drop n s)
  pub inside : n ≤ length s
