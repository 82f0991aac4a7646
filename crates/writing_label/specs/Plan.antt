-- Inner: what a label is answered, once its elements are measured, and how it begins and ends.
use Rattle.std.specs.Prelude.{true, false, cond, List, ℕ, ◌≤◌, ◌≡◌, ltb, ℤ, length}
use Rattle.text.specs.Ascii.{ascii}
use Rattle.elements.specs.declared.filled.Filled.{Filled}
use Rattle.elements.specs.declared.filled.Filled.TheVariants.{Bytes, Refused}
use Rattle.elements.specs.declared.refusal.Refusal.TheVariants.{InputTooLong, OutputTooShort, NotReadable}
use Rattle.elements.specs.Given.{longest}
use Rattle.spellings.specs.Due.{no_label}
use Rattle.spellings.specs.Spelled.{ended, print_line}
use Rattle.writing_element.specs.Place.{placed_at}
use Rattle.writing_label.specs.declared.tally.Tally.{Tally}
use Rattle.writing_label.specs.Tally.{tally, onto}

-- before the first element, behind `N` and its LF
abbrev pub measured : Tally
measured = tally 0 2 false

-- the print line with its LF
abbrev pub print_text : ℤ → ℤ → List ℕ
print_text sets copies = ended (print_line (record { sets = sets; copies = copies }))

-- its length, which no number of 32 bits makes long
pub record PrintLen (sets copies : ℤ) (r : ℕ) : Type 0 where
  pub is : r ≡ length (print_text sets copies)
  pub short : r ≤ 100

-- a text of n bytes, for a buffer of room bytes
abbrev pub answer_in : ℕ → ℕ → Filled
answer_in room n = cond (ltb room n) (Refused OutputTooShort n) (Bytes n)

-- what is answered, from the lengths of the input, of the list and of the buffer
abbrev pub plan_of : ℕ → ℕ → ℕ → Tally → ℤ → ℤ → Filled
plan_of long n room m sets copies =
    cond (ltb longest long) (Refused InputTooLong 0)
    (cond m.refused (Refused NotReadable m.number)
    (cond (no_label n (record { sets = sets; copies = copies })) (Refused NotReadable n)
    (answer_in room (onto m.at (length (print_text sets copies))))))

-- how it begins: `N`, where it is to be written
abbrev pub begin_of : Filled → List ℕ → Tally × List ℕ
begin_of (Bytes n) l = (tally 0 2 true, placed_at true 0 (ended (ascii "N")) l)
begin_of (Refused k p) l = (record { number = 0; at = 0; refused = true; writing = false }, l)

-- how it ends: its print line
abbrev pub finish_of : Filled → Tally → ℤ → ℤ → List ℕ → Filled × List ℕ
finish_of (Bytes n) e sets copies l = (Bytes n, placed_at true e.at (print_text sets copies) l)
finish_of (Refused k p) e sets copies l = (Refused k p, l)
