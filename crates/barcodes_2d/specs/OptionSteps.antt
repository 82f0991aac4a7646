-- Inner: the parameters of `b` as the reader takes them, in one pass. No claim rests on these: what is taken is proved
-- to be what `Options` says of each letter (`OptionsLastLaws`).
use Rattle.std.specs.Prelude.{◌≡◌, ℕ, ◌+◌, ◌≤◌, false, cond, List, [], ◌∷◌, eqb, ltb, pos, length, drop}
use Rattle.std.proofs.Math.Option.{Option, none, some}
use Rattle.text.specs.Ascii.{letter}
use Rattle.text.specs.Blank.{front}
use Rattle.text.specs.Class.{is_digit, is_letter}
use Rattle.numbers.specs.Number.{digits_of}
use Rattle.numbers.specs.declared.number.Number.{Number}
use Rattle.numbers.specs.declared.number.Number.TheVariants as number
use Rattle.elements.specs.declared.QrErrorCorrectionLevel.{QrErrorCorrectionLevel}
use Rattle.barcodes_2d.specs.declared.options.Options.{Options}
use Rattle.barcodes_2d.specs.declared.options.Value.{Value}
use Rattle.barcodes_2d.specs.Barcode2d.{level_first}
use Rattle.barcodes_2d.specs.Options.{Setting, is_level}

-- the value of a letter, by what follows it
abbrev pub value_of : List ℕ → List ℕ
value_of [] = []
value_of (y ∷ s) = cond (is_letter y) (y ∷ []) (front is_digit (y ∷ s))

-- n, 2^31 at most
abbrev pub cap : ℕ → ℕ
cap n = cond (ltb n 2147483648) n 2147483648

-- what digits held as the record has it: 2^31 is a number beyond 32 bits, 2^31 + 1 no number
abbrev pub held : Option ℕ → ℕ
held none = 2147483649
held (some n) = cap n

-- what a value held; 2^31 + 2 is an empty one
abbrev pub magnitude : List ℕ → ℕ
magnitude [] = 2147483650
magnitude (b ∷ v) = held (digits_of (b ∷ v))

-- the answer of the number reader that n stands for
abbrev pub number_of : ℕ → Number
number_of n =
    cond (ltb n 2147483648) (number.Value (pos n))
    (cond (eqb n 2147483648) number.Beyond (cond (eqb n 2147483649) number.NoNumber number.Empty))

-- the byte that a value is, or 0
abbrev pub alone_of : List ℕ → ℕ
alone_of [] = 0
alone_of (b ∷ []) = b
alone_of (b ∷ c ∷ v) = 0

-- what `value_from` answers: r says what counts of the value at `from`, and where it ends
pub record ValueAt (s : List ℕ) (from : ℕ) (r : Value) : Type 0 where
  pub number : r.number ≡ magnitude (value_of (drop from s))
  pub alone : r.alone ≡ alone_of (value_of (drop from s))
  pub next : r.next ≡ from + length (value_of (drop from s))
  pub fits : r.next ≤ length s

-- a number, or the one before it
abbrev pub number_over : ℕ → ℕ → ℕ
number_over n before = cond (ltb n 2147483648) n before

-- a level letter, or the one before it
abbrev pub level_over : ℕ → ℕ → ℕ
level_over a before = cond (is_level (a ∷ [])) a before

-- with the parameter b, its number n, its byte a
abbrev pub taken : Options → ℕ → ℕ → ℕ → Options
taken k b n a =
    record {
      c = cond (eqb b (letter "c")) n k.c;
      d = cond (eqb b (letter "d")) (number_over n k.d) k.d;
      e = cond (eqb b (letter "e")) (number_over n k.e) k.e;
      h = cond (eqb b (letter "h")) (number_over n k.h) k.h;
      l = cond (eqb b (letter "l")) n k.l;
      m = cond (eqb b (letter "m")) n k.m;
      o = cond (eqb b (letter "o")) (number_over n k.o) k.o;
      r = cond (eqb b (letter "r")) n k.r;
      s = cond (eqb b (letter "s")) (number_over n k.s) k.s;
      x = cond (eqb b (letter "x")) (number_over n k.x) k.x;
      y = cond (eqb b (letter "y")) (number_over n k.y) k.y;
      level = cond (eqb b (letter "e")) (level_over a k.level) k.level;
      truncate = cond (eqb b (letter "t")) (eqb a (letter "1")) k.truncate;
    }

abbrev pub no_options : Options
no_options =
    record {
      c = 2147483650;
      d = 2147483650;
      e = 2147483650;
      h = 2147483650;
      l = 2147483650;
      m = 2147483650;
      o = 2147483650;
      r = 2147483650;
      s = 2147483650;
      x = 2147483650;
      y = 2147483650;
      level = 0;
      truncate = false;
    }

-- all of them, from the front
abbrev pub all_taken : Options → List Setting → Options
all_taken k [] = k
all_taken k (o ∷ os) = all_taken (taken k o.letter (magnitude o.value) (alone_of o.value)) os

-- the level of a letter, M for any other
abbrev pub level_byte : ℕ → QrErrorCorrectionLevel
level_byte b = level_first (b ∷ [])
