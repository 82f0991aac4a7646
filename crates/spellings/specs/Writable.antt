-- Which elements a line or a block yields at reference 0,0 (01, "Writing EPL": 23 for no other), from an element's
-- plain form.
use Rattle.std.specs.Prelude.{Bool, true, ◌&&◌, ◌||◌, List, ℕ, ◌+◌, ◌%◌, eqb, leb, ltb, pos, nat_abs, length}
use Rattle.std.specs.Int.Signed.{le_z}
use Rattle.text.specs.Fields.{index_of}
use Rattle.text.specs.Utf8.{decode}
use Rattle.elements.specs.declared.DataSpan.{DataSpan}
use Rattle.elements.specs.declared.LabelElement.{LabelElement}
use Rattle.elements.specs.declared.LabelPosition.{LabelPosition}
use Rattle.elements.specs.declared.plain.Bars.{Bars}
use Rattle.elements.specs.declared.plain.Data.{Data}
use Rattle.elements.specs.declared.plain.Data.TheVariants.{NoData, Payload, Decoded}
use Rattle.elements.specs.declared.plain.Fields.{Fields}
use Rattle.elements.specs.declared.plain.Fields.TheVariants as fields
use Rattle.elements.specs.Plain.{plain_of}
use Rattle.frame_bytes.specs.Frame.{part}
use Rattle.barcodes_2d.specs.Barcode2d.{is_mode}
use Rattle.spellings.specs.Draws.{fine_box, fine_diagonal}
use Rattle.spellings.specs.Codes2d.{fine_aztec, fine_datamatrix, fine_pdf417, fine_qr}
use Rattle.spellings.specs.Fonts.{fine_font, fine_ratio}
use Rattle.spellings.specs.Spelled.{bytes_in}

-- "Least value 1 for .. narrow bar, bar height"
abbrev pub fine_bars : Bars → Bool
fine_bars b = le_z (pos 1) b.narrow && le_z (pos 1) b.height

-- n bytes are whole rows
abbrev pub whole_rows : ℕ → ℕ → Bool
whole_rows n row = eqb n 0 || (ltb 0 row && eqb (n % row) 0)

-- the numbers of an element at p with the data t are ones that a line or a block gives
abbrev pub fine_fields : LabelPosition → List ℕ → Fields → Bool
fine_fields p t (fields.Text reverse f i) = fine_font f i
fine_fields p t (fields.Box x c) = fine_box p x c
fine_fields p t (fields.Diagonal x down) = fine_diagonal p x down
fine_fields p t (fields.Graphic row) = le_z (pos 0) row && whole_rows (length t) (nat_abs row)
fine_fields p t (fields.Code128 b m) = fine_bars b
fine_fields p t (fields.Bars b) = fine_bars b
fine_fields p t (fields.Ratio b check wide x) = fine_bars b && fine_ratio wide b.narrow x
fine_fields p t (fields.Pdf417 b) = fine_pdf417 b
fine_fields p t (fields.Aztec b) = fine_aztec b
fine_fields p t (fields.Datamatrix b) = fine_datamatrix b
-- "QR data of at most 9,999 decoded bytes"
fine_fields p t (fields.Qr b l) = fine_qr b && leb (length (decode t)) 9999
fine_fields p t (fields.Maxicode c) = is_mode c.mode

-- "data outside the input"
abbrev pub inside : List ℕ → DataSpan → Bool
inside s d = leb (d.start + d.len) (length s)

-- data that a line can have: some bytes, no LF among them
abbrev pub line_text : List ℕ → Bool
line_text t = ltb 0 (length t) && eqb (index_of 10 t) (length t)

-- data where it may lie: a block's is any, its rows being whole
abbrev pub fine_data : List ℕ → Data → Bool
fine_data s NoData = true
fine_data s (Payload d) = inside s d
fine_data s (Decoded d) = inside s d && line_text (part s d)

-- 23 where not
unfoldable pub writable : List ℕ → LabelElement → Bool
writable s e =
    fine_data s (plain_of e).«data»
    && fine_fields (plain_of e).position (bytes_in s (plain_of e).«data») (plain_of e).fields
