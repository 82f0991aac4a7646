-- What the normaliser's program prints (01, "format.rs" and "Frames").
use Rattle.std.specs.Prelude.{List, ℕ}
use Rattle.file_listing.specs.Printing.{printed}
use Rattle.format.specs.Normalise.{due_of}

-- by way of a buffer of m bytes
abbrev pub printed_of : List ℕ → ℕ → List ℕ
printed_of s m = printed s (due_of s) m
