-- What the programs print (01, "Frames").
use Rattle.std.specs.Prelude.{◌≡◌, cond, List, [], ℕ, ltb, length, take}
use Rattle.text.specs.Wrote.{Wrote}
use Rattle.frame_bytes.specs.Frame.{refusal_frame}
use Rattle.frame_bytes.specs.Hex.{line_of}
use Rattle.elements.specs.Given.{Given, bytes, refused, Due, text, denied, within, fitting}
use Rattle.file_listing.specs.Listing.{due_of}

-- "A refusal prints only ff, its number (1 byte), its place"
abbrev pub refusal_line : ℕ → ℕ → List ℕ
refusal_line n p = line_of (refusal_frame n p)

-- what is due, printed
abbrev pub shown_of : Due → List ℕ
shown_of (text t) = t
shown_of (denied n p) = refusal_line n p

-- a refusal by way of a buffer of m bytes: fewer than 13 cannot hold it
unfoldable pub refusal_by : ℕ → ℕ → ℕ → List ℕ
refusal_by m n p = cond (ltb m 13) [] (refusal_line n p)

-- what is due, by way of that buffer
abbrev pub shown_by : ℕ → Due → List ℕ
shown_by m (text t) = t
shown_by m (denied n p) = refusal_by m n p

-- what a program prints that has read s, by way of that buffer: "over 65,536 bytes: 14"
abbrev pub printed : List ℕ → Due → ℕ → List ℕ
printed s d m = shown_by m (fitting (within 65536 s d) m)

-- "The listing program reads standard input"
abbrev pub printed_of : List ℕ → ℕ → List ℕ
printed_of s m = printed s (due_of s) m

-- ---- a program, from standard input to standard output
-- a program has read standard input s into its buffer l, until l was full or s at its end: the n bytes read are s as
-- far as l holds it (`took`, PrintingProgramLaws: such a buffer has it, whatever s is)
abbrev pub Took : List ℕ → ℕ → List ℕ → Type 0
Took l n s = take n l ≡ take (length l) s

-- what it prints for s, of any length, to which d is due: "over 65,536 bytes: 14", else all of it; 15 is no answer
abbrev pub shown_for : List ℕ → Due → List ℕ
shown_for s d = shown_of (within 65536 s d)

-- the first r bytes of its other buffer, now o, are that, whatever stands in s behind what was read
abbrev pub Shows : (List ℕ → Due) → List ℕ → ℕ → List ℕ → ℕ → Type 0
Shows due l n o r = (s : List ℕ) → Took l n s → take r o ≡ shown_for s (due s)

-- ---- the parts
-- what is written over a buffer of m bytes that a call has filled, by what the call gave back
abbrev pub overwrites : ℕ → Given → List ℕ
overwrites m (bytes k) = []
overwrites m (refused n p) = refusal_by m n p

-- how many bytes there are to print then
abbrev pub length_of : ℕ → Given → ℕ
length_of m (bytes k) = k
length_of m (refused n p) = length (refusal_by m n p)

-- l becomes n, and r bytes of it are to print
pub record Prints (n l : List ℕ) (g : Given) (r : ℕ) : Type 0 where
  pub wrote : Wrote n l 0 (overwrites (length l) g)
  pub next : r ≡ length_of (length l) g
