-- What is due to a host that asks for decoded data (01, "Grammar": "Data is decoded as `from_utf8_lossy` does"; "Who
-- causes which number").
use Rattle.std.specs.Prelude.{List, ℕ}
use Rattle.text.specs.Utf8.{decode}
use Rattle.elements.specs.declared.DataSpan.{DataSpan}
use Rattle.frame_bytes.specs.Frame.{part}
use Rattle.elements.specs.Given.{Due, text, within, longest}

-- the data at d of the input s, as far as s goes
abbrev pub due_of : List ℕ → DataSpan → Due
due_of s d = within longest s (text (decode (part s d)))
