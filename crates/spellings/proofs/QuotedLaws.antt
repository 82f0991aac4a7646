-- A line with data as it is written: its parameters and its data are those given, whatever bytes the data has.
-- Assumes nothing.
use mathlib.Core.Path.{◌≡◌, refl, sym, ap, ◌∙◌}
use mathlib.Core.List.{List, [], ◌∷◌, ◌++◌, append_assoc}
use Prim.Native.Nat.{ℕ, ◌+◌, ◌<◌}
use native.Mathlib.Omega.{arith}
use lib.ListN.{length, take, drop, length-append}
use lib.Seq.{take-append_seam, drop-append_seam}
use lib.IntN.{ℤ}
use borrow.Author.Tests.{ne_eqb}
use Rattle.text.specs.Blank.{trim}
use Rattle.text.specs.Fields.{index_of, before, quoted, fields, without_trailing_commas}
use Rattle.text.proofs.BlankTrimLaws.{trim_start_other}
use Rattle.elements.specs.declared.LabelPosition.{LabelPosition}
use Rattle.command_letters.specs.declared.command.DataCommand.{DataCommand}
use Rattle.command_letters.specs.declared.command.DataCommand.TheVariants.{Text, Barcode, Barcode2d}
use Rattle.command_letters.specs.declared.command.Command.TheVariants.{Data}
use Rattle.command_letters.specs.Command.{is_reference, command_of}
use Rattle.commands.specs.Line.{params_of, with_data, span_of, quoted_reading, lead_of, read_line}
use Rattle.decimals.specs.Decimal.{decimal}
use Rattle.decimals.specs.Joined.{Without, closed}
use Rattle.decimals.proofs.JoinedLaws.{index_here, before_here, quoted_here, trailing_other, trailing_comma, without_append, without_cons, without_nil, fields_closed}
use Rattle.decimals.proofs.ReadLaws.{Plain, plain, Ends, ends_append, decimal_without, trim_ends}
use Rattle.spellings.specs.Quoted.{letter_of, quotes, quoted_line, span_in, numbers_then}

-- numbers, each closed, before s

pub numbers_without : (b : ℕ) (zs : List ℤ) (s : List ℕ) → (44 ≡ b → ⊥) → ((z : ℤ) → Without b (decimal z)) → Without b s → Without b (numbers_then zs s)
unfolding numbers_then
numbers_without b [] s h d w = w
numbers_without b (z ∷ zs) s h d w = without_append b (decimal z) (44 ∷ numbers_then zs s) (d z) (without_cons b 44 (numbers_then zs s) h (numbers_without b zs s h d w))

pub then_ends : (zs : List ℤ) (s : List ℕ) → Ends s → Ends (numbers_then zs s)
unfolding numbers_then
then_ends [] s e = e
then_ends (z ∷ zs) s e = ends_append (decimal z) (44 ∷ numbers_then zs s) (ends_append (44 ∷ []) (numbers_then zs s) (then_ends zs s e))

pub fields_then : (zs : List ℤ) (s : List ℕ) → length (fields (numbers_then zs s)) ≡ length zs + length (fields s)
unfolding numbers_then
fields_then [] s = omega arith
fields_then (z ∷ zs) s =
    ap length (fields_closed (decimal z) (numbers_then zs s) (decimal_without 44 refl (λ e. omega arith) z))
    ∙ omega (arith, fields_then zs s)

-- the data

pub ends_quotes : (d : List ℕ) → Ends (quotes d)
ends_quotes d = record { rest = 34 ∷ d; last = 34; is = refl; plain = plain 34 (omega arith) (omega arith); no_comma = λ e. omega arith }

letter_plain : (c : DataCommand) → Plain (letter_of c)
letter_plain Text = plain 65 (omega arith) (omega arith)
letter_plain Barcode = plain 66 (omega arith) (omega arith)
letter_plain Barcode2d = plain 98 (omega arith) (omega arith)

letter_other : (c : DataCommand) → letter_of c ≡ 34 → ⊥
letter_other Text e = omega arith
letter_other Barcode e = omega arith
letter_other Barcode2d e = omega arith

letter_lf : (c : DataCommand) → letter_of c ≡ 10 → ⊥
letter_lf Text e = omega arith
letter_lf Barcode e = omega arith
letter_lf Barcode2d e = omega arith

letter_command : (c : DataCommand) (s : List ℕ) → command_of (letter_of c ∷ s) ≡ Data c
unfolding command_of is_reference
letter_command Text s = refl
letter_command Barcode s = refl
letter_command Barcode2d s = refl

module _ (c : DataCommand) (s d : List ℕ) (w : Without 34 s) (n : Ends s) where
  -- the line up to its first quote
  upto : List ℕ
  upto = letter_of c ∷ (s ++ (44 ∷ []))

  upto_without : Without 34 upto
  unfolding upto
  upto_without = without_cons 34 (letter_of c) (s ++ (44 ∷ [])) (letter_other c) (without_append 34 s (44 ∷ []) w (without_cons 34 44 [] (λ e. omega arith) (without_nil 34)))

  line_is : quoted_line c s d ≡ upto ++ quotes d
  unfolding quoted_line upto
  line_is = ap (λ (l : List ℕ). letter_of c ∷ l) (sym (append_assoc s (44 ∷ []) (quotes d)))

  length_upto : length upto ≡ length s + 2
  unfolding upto
  length_upto = omega (arith, length-append s (44 ∷ []))

  pub trim_line : trim (quoted_line c s d) ≡ quoted_line c s d
  unfolding quoted_line
  trim_line = trim_ends (letter_of c) (closed s (quotes d)) (letter_plain c) (ends_append s (44 ∷ quotes d) (ends_append (44 ∷ []) (quotes d) (ends_quotes d)))

  lead_none : lead_of (quoted_line c s d) ≡ 0
  unfolding quoted_line
  lead_none =
      let e = ap length (trim_start_other (letter_of c) (closed s (quotes d)) (letter_plain c).ascii (letter_plain c).other) in
      omega arith

  params_are : params_of (quoted_line c s d) ≡ s
  unfolding params_of upto
  params_are =
      ap (λ (l : List ℕ). without_trailing_commas (drop 1 (before 34 l))) line_is
      ∙ ap (λ (l : List ℕ). without_trailing_commas (drop 1 l)) (before_here 34 upto (d ++ (34 ∷ [])) upto_without)
      ∙ trailing_comma s
      ∙ ap without_trailing_commas n.is
      ∙ trailing_other n.rest n.last n.no_comma
      ∙ sym n.is

  pub quoted_is : quoted (quoted_line c s d) ≡ d
  quoted_is = ap quoted line_is ∙ quoted_here upto d upto_without

  span_is : span_of 0 (quoted_line c s d) ≡ span_in s d
  span_is =
      let i = ap (index_of 34) line_is ∙ index_here 34 upto (d ++ (34 ∷ [])) upto_without in
      let st : 0 + index_of 34 (quoted_line c s d) + 1 ≡ length s + 3 = omega (arith, i, length_upto) in
      let le : length (quoted (quoted_line c s d)) ≡ length d = ap length quoted_is in
      rw (st, le) refl

  letter_first : command_of (quoted_line c s d) ≡ Data c
  unfolding quoted_line
  letter_first = letter_command c (closed s (quotes d))

  -- the line reads as the command with just these
  pub quoted_read : (r : LabelPosition) → 0 < length d → read_line (quoted_line c s d) r ≡ with_data c s d (span_in s d) r
  unfolding read_line quoted_reading
  quoted_read r h = rw (trim_line, letter_first, lead_none, span_is, quoted_is, params_are) (simp (ne_eqb (length d) 0 (λ e. omega arith)))

  -- and its data lies where it says, whatever follows the line
  pub data_there : (tail : List ℕ) → take (length d) (drop (length s + 3) (quoted_line c s d ++ tail)) ≡ d
  data_there tail =
      let q = upto ++ (34 ∷ []) in
      let e : quoted_line c s d ++ tail ≡ q ++ (d ++ (34 ∷ tail)) =
      ap (λ (l : List ℕ). l ++ tail) (line_is ∙ sym (append_assoc upto (34 ∷ []) (d ++ (34 ∷ []))))
      ∙ append_assoc q (d ++ (34 ∷ [])) tail
      ∙ ap (λ (l : List ℕ). q ++ l) (append_assoc d (34 ∷ []) tail) in
      let l : length s + 3 ≡ length q = omega (arith, length_upto, length-append upto (34 ∷ [])) in
      ap (λ (k : ℕ). take (length d) (drop k (quoted_line c s d ++ tail))) l
      ∙ ap (λ (t : List ℕ). take (length d) (drop (length q) t)) e
      ∙ ap (take (length d)) (drop-append_seam q (d ++ (34 ∷ tail)))
      ∙ take-append_seam d (34 ∷ tail)

  -- no LF where none is given
  pub line_without : Without 10 s → Without 10 d → Without 10 (quoted_line c s d)
  unfolding quoted_line
  line_without ws wd =
      without_cons 10 (letter_of c) (closed s (quotes d)) (letter_lf c)
      (without_append 10 s (44 ∷ quotes d) ws
      (without_cons 10 44 (quotes d) (λ e. omega arith)
      (without_cons 10 34 (d ++ (34 ∷ [])) (λ e. omega arith) (without_append 10 d (34 ∷ []) wd (without_cons 10 34 [] (λ e. omega arith) (without_nil 10))))))
