-- The elements of an opened label with the first bytes of their lines, against its frames (01, "From 203 to 300 dots").
use Rattle.std.specs.Prelude.{◌≡◌, List, [], ◌∷◌, ℕ, take, get_or}
use Rattle.frame_bytes.specs.Frame.{frame_of}
use Rattle.walk_theory.specs.Index as theory
use Rattle.label_index.specs.declared.entry.LabelEntry.{LabelEntry}
use Rattle.label_index.specs.Entries.{no_entry}
use Rattle.file_listing.specs.Listing.{FramedLabel}
use Rattle.dots_label.specs.Conversion.{Drawn, drawn_of}
use Rattle.dots_label.specs.Promise.{AllBegin}

-- the frames of these elements in the string t
abbrev pub frames_of : List ℕ → List Drawn → List (List ℕ)
frames_of t [] = []
frames_of t (d ∷ ds) = frame_of t d.element ∷ frames_of t ds

-- ds are the elements of the label f that the entry with the number i opens, each with the place of its unit's first
-- byte
pub record Framed (s : List ℕ) (es : List LabelEntry) (i : ℕ) (f : FramedLabel) (ds : List Drawn) : Type 0 where
  pub drawn : drawn_of s es i ≡ theory.opens (record { count = f.count; says = f.says; frames = ds })
  -- "the first byte of the line": there the unit stands that yields it
  pub begins : AllBegin (take (get_or es i no_entry).last s) ds
  pub frames : f.frames ≡ frames_of (take (get_or es i no_entry).last s) ds
