-- Blanks (01, "Grammar"), and taking them off both ends of raw bytes.
use Rattle.std.specs.Prelude.{ℕ, zero, suc, ◌-◌, Bool, false, cond, ◌&&◌, ◌||◌, List, [], ◌∷◌, reverse, take, eqb}
use Rattle.text.specs.Utf8.{within}

-- an ASCII blank: 20, 09, 0a, 0c, 0d; 0b is none
abbrev pub is_ascii_blank : ℕ → Bool
is_ascii_blank b = eqb b 0x20 || eqb b 0x09 || eqb b 0x0a || eqb b 0x0c || eqb b 0x0d

module _ {A : Type 0} where
  -- a list without the elements of p that it starts with
  abbrev pub drop_while : (A → Bool) → List A → List A
  drop_while p [] = []
  drop_while p (x ∷ xs) = cond (p x) (drop_while p xs) (x ∷ xs)

  -- the elements of p that a list starts with
  abbrev pub front : (A → Bool) → List A → List A
  front p [] = []
  front p (x ∷ xs) = cond (p x) (x ∷ front p xs) []

  -- a list without the elements of p that it ends with
  abbrev pub drop_end : (A → Bool) → List A → List A
  drop_end p xs = reverse (drop_while p (reverse xs))

  -- a list without the elements of p at both ends
  abbrev pub drop_both : (A → Bool) → List A → List A
  drop_both p xs = drop_end p (drop_while p xs)

-- a text without the ASCII blanks at both ends
abbrev pub trim_ascii : List ℕ → List ℕ
trim_ascii s = drop_both is_ascii_blank s

-- the Unicode blanks of one byte: U+0009..U+000D, U+0020
abbrev pub is_blank1 : ℕ → Bool
is_blank1 a = within 0x09 0x0d a || eqb a 0x20

-- the Unicode blanks of two bytes: U+0085, U+00A0
abbrev pub is_blank2 : ℕ → ℕ → Bool
is_blank2 a b = eqb a 0xc2 && (eqb b 0x85 || eqb b 0xa0)

-- the Unicode blanks of three bytes: U+1680; U+2000..U+200A, U+2028, U+2029, U+202F; U+205F; U+3000
abbrev pub is_blank3 : ℕ → ℕ → ℕ → Bool
is_blank3 a b c =
    eqb a 0xe1 && eqb b 0x9a && eqb c 0x80
    || eqb a 0xe2 && eqb b 0x80 && (within 0x80 0x8a c || eqb c 0xa8 || eqb c 0xa9 || eqb c 0xaf)
    || eqb a 0xe2 && eqb b 0x81 && eqb c 0x9f
    || eqb a 0xe3 && eqb b 0x80 && eqb c 0x80

-- a character, as its bytes, is a Unicode blank (White_Space)
abbrev pub is_blank : List ℕ → Bool
is_blank [] = false
is_blank (a ∷ []) = is_blank1 a
is_blank (a ∷ b ∷ []) = is_blank2 a b
is_blank (a ∷ b ∷ c ∷ []) = is_blank3 a b c
is_blank (a ∷ b ∷ c ∷ d ∷ s) = false

-- White_Space, as 01 lists it: 9 to d, 20, 85, a0, 1680, 2000 to 200a, 2028, 2029, 202f, 205f, 3000
abbrev pub is_white_space : ℕ → Bool
is_white_space v =
    within 0x9 0xd v || eqb v 0x20 || eqb v 0x85 || eqb v 0xa0 || eqb v 0x1680 || within 0x2000 0x200a v
    || eqb v 0x2028 || eqb v 0x2029 || eqb v 0x202f || eqb v 0x205f || eqb v 0x3000

-- the length of the character of a class p that stands first in s, or 0 where none does
abbrev pub size_of : (List ℕ → Bool) → List ℕ → ℕ
size_of p s = cond (p (take 1 s)) 1 (cond (p (take 2 s)) 2 (cond (p (take 3 s)) 3 0))

-- s, its first k bytes passed over, without the characters of p that it then starts with
abbrev pub strip_after : (List ℕ → Bool) → List ℕ → ℕ → List ℕ
strip_after p [] k = []
strip_after p (a ∷ s) zero = cond (eqb (size_of p (a ∷ s)) 0) (a ∷ s) (strip_after p s (size_of p (a ∷ s) - 1))
strip_after p (a ∷ s) (suc k) = strip_after p s k

abbrev pub strip : (List ℕ → Bool) → List ℕ → List ℕ
strip p s = strip_after p s 0

-- the class of the reversed characters, for the end of a list
abbrev pub back : (List ℕ → Bool) → List ℕ → Bool
back p w = p (reverse w)

abbrev pub strip_end : (List ℕ → Bool) → List ℕ → List ℕ
strip_end p s = reverse (strip (back p) (reverse s))

-- a text without the Unicode blanks that it starts with, and without those that it ends with
abbrev pub trim_start : List ℕ → List ℕ
trim_start s = strip is_blank s

abbrev pub trim_end : List ℕ → List ℕ
trim_end s = strip_end is_blank s

-- "After its Unicode blanks .. are taken off both ends"
abbrev pub trim : List ℕ → List ℕ
trim s = trim_end (trim_start s)

-- a decoded text, as its characters, without the Unicode blanks at both ends
abbrev pub trim_chars : List (List ℕ) → List (List ℕ)
trim_chars cs = drop_both is_blank cs
