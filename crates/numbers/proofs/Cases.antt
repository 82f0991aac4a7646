-- What a field held, by computation: each of the four answers, and both ends of 32 bits.
-- Assumes nothing.
use mathlib.Core.Path.{◌≡◌}
use mathlib.Core.List.{[], ◌∷◌}
use lib.IntN.{pos, negsuc}
use Rattle.text.specs.Ascii.{ascii}
use Rattle.numbers.specs.declared.number.Number.TheVariants.{Value, Empty, NoNumber, Beyond}
use Rattle.numbers.specs.Number.{number_spelled, field_number, field_or}

record Cases : Type 0 where
  -- a value: with a sign, with blanks around it, with zeros before it; the least and the greatest
  plain : field_number (ascii "12") ≡ Value (pos 12)
  plus : field_number (ascii "+5") ≡ Value (pos 5)
  minus : field_number (ascii "-6") ≡ Value (negsuc 5)
  minus_zero : field_number (ascii "-0") ≡ Value (pos 0)
  blanks : field_number (0xc2 ∷ 0xa0 ∷ ascii " 34 ") ≡ Value (pos 34)
  zeros : field_number (ascii "00000000000078") ≡ Value (pos 78)
  greatest : field_number (ascii "2147483647") ≡ Value (pos 2147483647)
  least : field_number (ascii "-2147483648") ≡ Value (negsuc 2147483647)
  -- empty: nothing, or nothing but blanks
  nothing : field_number [] ≡ Empty
  only_blanks : field_number (0xc2 ∷ 0xa0 ∷ ascii "  ") ≡ Empty
  -- no number: a letter O, a sign alone, a blank or a second sign inside, letters behind more digits than 32 bits hold
  letter_o : field_number (ascii "12O") ≡ NoNumber
  plus_alone : field_number (ascii "+") ≡ NoNumber
  minus_alone : field_number (ascii "-") ≡ NoNumber
  blank_inside : field_number (ascii "- 1") ≡ NoNumber
  two_signs : field_number (ascii "+-3") ≡ NoNumber
  form_first : field_number (ascii "99999999999x") ≡ NoNumber
  minus_form_first : field_number (ascii "-2147483649x") ≡ NoNumber
  -- beyond: one past either end, and numbers that 64 bits would wrap to 9
  above : field_number (ascii "2147483648") ≡ Beyond
  plus_above : field_number (ascii "+2147483648") ≡ Beyond
  below : field_number (ascii "-2147483649") ≡ Beyond
  wrapped : field_number (ascii "18446744073709551625") ≡ Beyond
  minus_wrapped : field_number (ascii "-18446744073709551607") ≡ Beyond
  -- the default stands for all but a value
  value_or : field_or (pos 7) (ascii "12") ≡ pos 12
  empty_or : field_or (pos 7) [] ≡ pos 7
  no_number_or : field_or (pos 8) (ascii "12O") ≡ pos 8
  beyond_or : field_or (pos 9) (ascii "2147483648") ≡ pos 9

-- each computes
cases : Cases
unfolding number_spelled
cases = search
