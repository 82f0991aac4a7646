-- An element and its data's bytes, wherever they lie (01, "Writing EPL": "data compared by bytes").
use Rattle.std.specs.Prelude.{List, map, ℕ}
use Rattle.elements.specs.declared.DataSpan.{DataSpan}
use Rattle.elements.specs.declared.LabelElement.{LabelElement}
use Rattle.elements.specs.Spans.{on_span, spans}
use Rattle.frame_bytes.specs.Frame.{part}

pub record Shown : Type 0 where
  -- without its data
  pub bare : LabelElement
  -- the bytes of its data, if it has any
  pub parts : List (List ℕ)

abbrev pub nowhere : DataSpan → DataSpan
nowhere d = record { start = 0; len = 0 }

abbrev pub shown : List ℕ → LabelElement → Shown
shown s e = record { bare = on_span nowhere e; parts = map (part s) (spans e) }
