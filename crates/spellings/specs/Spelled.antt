-- An element and a label as they are written (01, "Writing EPL": "One spelling for each element, every command and
-- block followed by LF"), from an element's plain form.
use Rattle.std.specs.Prelude.{Bool, cond, List, [], ◌∷◌, ◌++◌, ℕ, ◌/◌, eqb, ℤ, pos, nat_abs, length}
use Rattle.text.specs.Ascii.{ascii, spelt}
use Rattle.elements.specs.declared.LabelElement.{LabelElement}
use Rattle.elements.specs.declared.LabelPosition.{LabelPosition}
use Rattle.elements.specs.declared.PrintCounts.{PrintCounts}
use Rattle.elements.specs.declared.plain.Data.{Data}
use Rattle.elements.specs.declared.plain.Data.TheVariants.{NoData, Payload, Decoded}
use Rattle.elements.specs.declared.plain.Fields.{Fields}
use Rattle.elements.specs.declared.plain.Fields.TheVariants as fields
use Rattle.elements.specs.Plain.{plain_of}
use Rattle.frame_bytes.specs.Frame.{part}
use Rattle.barcodes.specs.declared.barcode.Symbology.{Symbology}
use Rattle.barcodes.specs.declared.barcode.Symbology.TheVariants.{Code128, Interleaved, Code39, Ean13, Ean8}
use Rattle.barcodes.specs.declared.barcode.Symbology.TheVariants.{UpcA, UpcE}
use Rattle.barcodes_2d.specs.declared.barcode_2d.Symbology2d.{Symbology2d}
use Rattle.barcodes_2d.specs.declared.barcode_2d.Symbology2d.TheVariants as two
use Rattle.command_letters.specs.declared.command.DataCommand.TheVariants.{Text, Barcode, Barcode2d}
use Rattle.decimals.specs.Decimal.{decimal}
use Rattle.decimals.specs.Joined.{closed}
use Rattle.spellings.specs.Draws.{spell_box, spell_diagonal}
use Rattle.spellings.specs.Quoted.{quoted_line, numbers_then}
use Rattle.spellings.specs.Codes.{text_params, bar_params}
use Rattle.spellings.specs.Codes2d.{type_letter, params2d, aztec_options, datamatrix_options, maxicode_options}
use Rattle.spellings.specs.Codes2d.{pdf417_options, qr_options}

-- the bytes of an element's data, not decoded
abbrev pub bytes_in : List ℕ → Data → List ℕ
bytes_in s NoData = []
bytes_in s (Payload d) = part s d
bytes_in s (Decoded d) = part s d

-- the lines of a graphic of n bytes, row of them in each: 0 where there are none in a row
abbrev pub lines_of : ℕ → ℕ → ℕ
lines_of n row = cond (eqb row 0) 0 (n / row)

-- kinds 06, 07, 08 and 10; 09 and 0a
abbrev pub plain_bars : ℕ → Symbology
plain_bars k = cond (eqb k 0x06) Ean13 (cond (eqb k 0x07) Ean8 (cond (eqb k 0x08) UpcA UpcE))

abbrev pub ratio_bars : ℕ → Bool → Symbology
ratio_bars k check = cond (eqb k 0x09) (Interleaved check) (Code39 check)

-- a 2D bar code with its options and data
abbrev pub code_line : LabelPosition → Symbology2d → List ℕ → List ℕ → List ℕ
code_line p y os t = quoted_line Barcode2d (params2d p (type_letter y) os) t

-- `GW` before its payload: x, y, row bytes, lines
unfoldable pub graphic_line : LabelPosition → ℤ → List ℕ → List ℕ
graphic_line p row t =
    spelt "GW" (numbers_then (p.x ∷ p.y ∷ row ∷ pos (lines_of (length t) (nat_abs row)) ∷ []) t)

-- the command of an element of the kind k at p with the data t, and what else it has; a wide bar that an element has
-- not is 2
abbrev pub command : ℕ → LabelPosition → List ℕ → Fields → List ℕ
command k p t (fields.Text reverse f i) = quoted_line Text (text_params p i.rotation f reverse) t
command k p t (fields.Box x c) = spell_box p x c
command k p t (fields.Diagonal x down) = spell_diagonal p x down
command k p t (fields.Graphic row) = graphic_line p row t
command k p t (fields.Code128 b m) = quoted_line Barcode (bar_params p b (Code128 m) (pos 2)) t
command k p t (fields.Bars b) = quoted_line Barcode (bar_params p b (plain_bars k) (pos 2)) t
command k p t (fields.Ratio b check wide x) = quoted_line Barcode (bar_params p b (ratio_bars k check) wide) t
command k p t (fields.Pdf417 b) = code_line p two.Pdf417 (pdf417_options b) t
command k p t (fields.Aztec b) = code_line p two.Aztec (aztec_options b) t
command k p t (fields.Datamatrix b) = code_line p two.Datamatrix (datamatrix_options b) t
command k p t (fields.Qr b l) = code_line p two.Qr (qr_options b l) t
command k p t (fields.Maxicode c) = code_line p two.Maxicode (maxicode_options c.mode) t

-- "every command and block followed by LF"
abbrev pub ended : List ℕ → List ℕ
ended t = t ++ (10 ∷ [])

abbrev pub command_for : List ℕ → LabelElement → List ℕ
command_for s e = command (plain_of e).kind (plain_of e).position (bytes_in s (plain_of e).«data») (plain_of e).fields

-- "From an element and the input that it lies in, write one command"
abbrev pub spell : List ℕ → LabelElement → List ℕ
spell s e = ended (command_for s e)

abbrev pub spell_all : List ℕ → List LabelElement → List ℕ
spell_all s [] = []
spell_all s (e ∷ es) = spell s e ++ spell_all s es

-- `P`, sets and copies
abbrev pub print_line : PrintCounts → List ℕ
print_line q = spelt "P" (closed (decimal q.sets) (decimal q.copies))

-- "from a label, `N`, its elements and its print line"
unfoldable pub spell_label : List ℕ → List LabelElement → PrintCounts → List ℕ
spell_label s es q = ended (ascii "N") ++ spell_all s es ++ ended (print_line q)
