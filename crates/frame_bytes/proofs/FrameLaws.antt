-- The sizes of frames (`fields_size`, `frame_size`, `frame_le`), frames as they are put (`frame_told`), and that a
-- frame depends on its data alone (`frame_local`). Laws of `part` are in FramePartLaws. Assumes nothing.
use mathlib.Core.Path.{◌≡◌, refl, sym, ap, ◌∙◌}
use mathlib.Core.List.{List, ◌++◌}
use Prim.Native.Nat.{ℕ, ◌+◌, ◌*◌, ◌≤◌}
use native.Mathlib.Omega.{arith}
use lib.ListN.{length, length-append}
use Rattle.text.specs.Utf8.{decode}
use Rattle.text.proofs.Utf8Laws.{length_decode_le}
use Rattle.elements.specs.declared.LabelElement.{LabelElement}
use Rattle.elements.specs.declared.LabelElement.TheVariants as element
use Rattle.elements.specs.declared.LabelPosition.{LabelPosition}
use Rattle.elements.specs.declared.plain.Data.{Data}
use Rattle.elements.specs.declared.plain.Data.TheVariants.{NoData, Payload, Decoded}
use Rattle.elements.specs.declared.plain.Fields.{Fields}
use Rattle.elements.specs.declared.plain.Fields.TheVariants.{Text, Box, Diagonal, Graphic, Code128, Bars, Ratio, Pdf417, Aztec, Datamatrix, Qr, Maxicode}
use Rattle.elements.specs.declared.plain.Plain.{Plain}
use Rattle.elements.specs.Plain.{plain_of}
use Rattle.elements.specs.Spans.{later, shifted, spans_in, AllIn, In}
use Rattle.elements.proofs.PlainLaws.{on_data, plain_on_span}
use Rattle.frame_bytes.specs.Frame.{be32, part, head, extent_bytes, bar_bytes, row_bytes, scale_bytes, field_bytes, data_bytes, plain_frame, frame_of}
use Rattle.frame_bytes.specs.Put.{PutHex}
use Rattle.frame_bytes.proofs.PutLaws.{whole, retold}
use Rattle.frame_bytes.proofs.FramePartLaws.{part_le, part_in, decode_part_le, part_local}

-- ---- fields
-- how many bytes they are
abbrev pub field_size : Fields → ℕ
field_size (Text r s f) = 30
field_size (Box x c) = 13
field_size (Diagonal x d) = 13
field_size (Graphic n) = 4
field_size (Code128 b m) = 11
field_size (Bars b) = 10
field_size (Ratio b c w r) = 23
field_size (Pdf417 b) = 22
field_size (Aztec b) = 8
field_size (Datamatrix b) = 12
field_size (Qr b l) = 5
field_size (Maxicode c) = 4

length_fields : (f : Fields) → (length (field_bytes f) ≡ field_size f) × (field_size f ≤ 30)
unfolding be32 extent_bytes bar_bytes row_bytes scale_bytes field_bytes
length_fields (Text r s f) = (refl, omega arith)
length_fields (Box x c) = (refl, omega arith)
length_fields (Diagonal x d) = (refl, omega arith)
length_fields (Graphic n) = (refl, omega arith)
length_fields (Code128 b m) = (refl, omega arith)
length_fields (Bars b) = (refl, omega arith)
length_fields (Ratio b c w r) = (refl, omega arith)
length_fields (Pdf417 b) = (refl, omega arith)
length_fields (Aztec b) = (refl, omega arith)
length_fields (Datamatrix b) = (refl, omega arith)
length_fields (Qr b l) = (refl, omega arith)
length_fields (Maxicode c) = (refl, omega arith)

-- fields that a match has told
module _ {f g : Fields} (h : f ≡ g) where
  pub fields_size : length (field_bytes f) ≡ field_size g
  fields_size = ap (λ (x : Fields). length (field_bytes x)) h ∙ (length_fields g).0

  pub fields_told : {n l : List ℕ} {at k r : ℕ} → PutHex n l at (field_bytes g) k r
      → PutHex n l at (field_bytes f) (length (field_bytes f)) r
  fields_told p = whole (retold (ap field_bytes (sym h)) p)

-- ---- data
abbrev pub data_size : List ℕ → Data → ℕ
data_size s NoData = 0
data_size s (Payload d) = 8 + length (part s d)
data_size s (Decoded d) = 4 + length (decode (part s d))

length_data : (s : List ℕ) (d : Data) → length (data_bytes s d) ≡ data_size s d
unfolding be32
length_data s NoData = refl
length_data s (Payload d) = omega arith
length_data s (Decoded d) = omega arith

-- data that a match has told
module _ (s : List ℕ) {d x : Data} (h : d ≡ x) where
  pub data_size_is : length (data_bytes s d) ≡ data_size s x
  data_size_is = ap (λ (y : Data). length (data_bytes s y)) h ∙ length_data s x

  pub data_told : {n l : List ℕ} {at k r : ℕ} → PutHex n l at (data_bytes s x) k r
      → PutHex n l at (data_bytes s d) (length (data_bytes s d)) r
  data_told p = whole (retold (ap (data_bytes s) (sym h)) p)

-- a byte that is decoded is at most three
abbrev data_most : Data → ℕ
data_most NoData = 0
data_most (Payload d) = 8 + d.len
data_most (Decoded d) = 4 + 3 * d.len

data_le : (s : List ℕ) (d : Data) → length (data_bytes s d) ≤ data_most d
data_le s NoData = omega arith
data_le s (Payload d) = omega (arith, length_data s (Payload d), part_le s d)
data_le s (Decoded d) = omega (arith, length_data s (Decoded d), decode_part_le s d)

data_in : (s : List ℕ) (d : Data) → length (data_bytes s d) ≤ 8 + 3 * length s
data_in s NoData = omega arith
data_in s (Payload d) = omega (arith, length_data s (Payload d), part_in s d)
data_in s (Decoded d) = omega (arith, length_data s (Decoded d), length_decode_le (part s d), part_in s d)

-- bytes before and after x change nothing of data that lies in x
data_local : (pre x post : List ℕ) (d : Data) → AllIn (length x) (spans_in d)
    → data_bytes (pre ++ (x ++ post)) (on_data (later (length pre)) d) ≡ data_bytes x d
data_local pre x post NoData h = refl
data_local pre x post (Payload d) h = rw (part_local pre x post d h.0)
data_local pre x post (Decoded d) h = rw (part_local pre x post d h.0)

-- ---- frames
length_head : (kind : ℕ) (p : LabelPosition) → length (head kind p) ≡ 9
unfolding be32 head
length_head kind p = refl

-- kind and position, the fields, the data
length_frame : (s : List ℕ) (e : LabelElement)
    → length (frame_of s e) ≡ 9 + length (field_bytes (plain_of e).fields) + length (data_bytes s (plain_of e).«data»)
unfolding frame_of
length_frame s e =
    let p = plain_of e in
    let h = head p.kind p.position in
    let f = field_bytes p.fields in
    let t = data_bytes s p.«data» in
    let all : length (frame_of s e) ≡ length (h ++ f) + length t = length-append (h ++ f) t in
    omega (arith, length_head p.kind p.position, length-append h f)

-- an element that is taken apart
module _ (s : List ℕ) (e : LabelElement) {p : Plain} (h : p ≡ plain_of e) where
  pub frame_size : length (frame_of s e) ≡ 9 + length (field_bytes p.fields) + length (data_bytes s p.«data»)
  frame_size = rw h (length_frame s e)

  pub frame_told : {n l : List ℕ} {at k r : ℕ} → PutHex n l at (plain_frame s p) k r
      → PutHex n l at (frame_of s e) (length (frame_of s e)) r
  unfolding frame_of
  frame_told q = whole (retold (ap (plain_frame s) h) q)

-- at most so many bytes, by the data: a box or a diagonal; a graphic; a text, which of all that is decoded has the most
-- fields
abbrev pub frame_most : Data → ℕ
frame_most NoData = 22
frame_most (Payload d) = 21 + d.len
frame_most (Decoded d) = 43 + 3 * d.len

-- kind by kind
kind_le : (e : LabelElement) → 9 + field_size (plain_of e).fields + data_most (plain_of e).«data» ≤ frame_most (plain_of e).«data»
kind_le (element.Text e) = omega arith
kind_le (element.GraphicBox e) = omega arith
kind_le (element.DiagonalLine e) = omega arith
kind_le (element.GraphicField e) = omega arith
kind_le (element.Barcode128 e) = omega arith
kind_le (element.BarcodeEan13 e) = omega arith
kind_le (element.BarcodeEan8 e) = omega arith
kind_le (element.BarcodeUca e) = omega arith
kind_le (element.Barcode2of5 e) = omega arith
kind_le (element.Barcode39 e) = omega arith
kind_le (element.BarcodePdf417 e) = omega arith
kind_le (element.BarcodeAztec e) = omega arith
kind_le (element.BarcodeDatamatrix e) = omega arith
kind_le (element.BarcodeQr e) = omega arith
kind_le (element.Maxicode e) = omega arith
kind_le (element.BarcodeUcpe e) = omega arith

pub frame_le : (s : List ℕ) (e : LabelElement) → length (frame_of s e) ≤ frame_most (plain_of e).«data»
frame_le s e = omega (arith, length_frame s e, (length_fields (plain_of e).fields).0, data_le s (plain_of e).«data», kind_le e)

-- wherever the data stands
most_on : (n : ℕ) (d : Data) → frame_most (on_data (later n) d) ≡ frame_most d
most_on n NoData = refl
most_on n (Payload d) = refl
most_on n (Decoded d) = refl

pub most_shifted : (n : ℕ) (e : LabelElement) → frame_most (plain_of (shifted n e)).«data» ≡ frame_most (plain_of e).«data»
most_shifted n e = ap (λ (p : Plain). frame_most p.«data») (plain_on_span (later n) e) ∙ most_on n (plain_of e).«data»

pub frame_in : (s : List ℕ) (e : LabelElement) → length (frame_of s e) ≤ 47 + 3 * length s
frame_in s e =
    let f = length_fields (plain_of e).fields in
    omega (arith, length_frame s e, f.0, f.1, data_in s (plain_of e).«data»)

-- a frame depends on the bytes where the element's data lies and on no others
pub frame_local : (pre x post : List ℕ) (e : LabelElement) → In (length x) e
    → frame_of (pre ++ (x ++ post)) (shifted (length pre) e) ≡ frame_of x e
unfolding frame_of
frame_local pre x post e h =
    let p = plain_of e in
    ap (plain_frame (pre ++ (x ++ post))) (plain_on_span (later (length pre)) e)
    ∙ ap (λ (t : List ℕ). head p.kind p.position ++ field_bytes p.fields ++ t) (data_local pre x post p.«data» h)
