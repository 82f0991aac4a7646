-- Print lines (01, "Grammar": "Print line"), from what stands behind their `P`.
use Rattle.std.specs.Prelude.{ℕ, Bool, ◌||◌, ◌&&◌, List, ltb, pos, length}
use Rattle.text.specs.Class.{all_digits}
use Rattle.text.specs.Fields.{before, after, field}
use Rattle.numbers.specs.Number.{field_or}
use Rattle.elements.specs.declared.PrintCounts.{PrintCounts}

-- "at least one digit", and nothing else
abbrev pub is_count : List ℕ → Bool
is_count s = all_digits s && ltb 0 (length s)

-- "`P` or `P` with digits"; "`P`, at least one digit, comma, at least one digit .., no blanks between"
unfoldable pub is_counts : List ℕ → Bool
is_counts s = all_digits s || (is_count (before 44 s) && is_count (after 44 s))

-- "label sets and, after a comma, copies"; "A count that is absent or too large for signed 32 bits is 1"
unfoldable pub counts_of : List ℕ → PrintCounts
counts_of s = record { sets = field_or (pos 1) (field s 0); copies = field_or (pos 1) (field s 1) }
