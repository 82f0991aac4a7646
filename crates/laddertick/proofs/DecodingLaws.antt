-- The claims of decoded data (`decoding`): what is given is due, and a frame ends with it. Assumes nothing.
use mathlib.Core.Path.{◌≡◌, refl}
use mathlib.Core.List.{List, ◌++◌}
use Prim.Native.Nat.{ℕ, ◌≤◌, ◌<◌}
use native.Mathlib.Omega.{arith}
use lib.ListN.{length, take, drop}
use Rattle.text.specs.Utf8.{decode}
use Rattle.elements.specs.declared.DataSpan.{DataSpan}
use Rattle.elements.specs.declared.filled.Filled.TheVariants as filled
use Rattle.elements.specs.declared.LabelElement.{LabelElement}
use Rattle.elements.specs.declared.LabelElement.TheVariants as kind
use Rattle.elements.specs.declared.refusal.Refusal.{Refusal}
use Rattle.elements.specs.Given.{longest}
use Rattle.elements.specs.Plain.{plain_of}
use Rattle.elements.proofs.GivenLaws.{within_long, within_short}
use Rattle.frame_bytes.specs.Frame.{head, field_bytes, decoded, frame_of}
use Rattle.decoding.specs.Decoding.{due_of}
use Rattle.laddertick.specs.HostContracts.{Library, Decoder, Denies, Gives}
use Rattle.laddertick.specs.Spanned.{HasText, span_of}
use Rattle.laddertick.specs.Claims.{Decoding}
use Rattle.laddertick.proofs.ContractsLaws.{keeps, denies, gives}

-- ---- a frame ends with its data
-- what stands before it
abbrev front : LabelElement → List ℕ
front e = head (plain_of e).kind (plain_of e).position ++ field_bytes (plain_of e).fields

ends_with : (s : List ℕ) (e : LabelElement) → HasText e → frame_of s e ≡ front e ++ decoded s (span_of e)
unfolding frame_of
ends_with s (kind.Text e) h = refl
ends_with s (kind.Barcode128 e) h = refl
ends_with s (kind.BarcodeEan13 e) h = refl
ends_with s (kind.BarcodeEan8 e) h = refl
ends_with s (kind.BarcodeUca e) h = refl
ends_with s (kind.Barcode2of5 e) h = refl
ends_with s (kind.Barcode39 e) h = refl
ends_with s (kind.BarcodePdf417 e) h = refl
ends_with s (kind.BarcodeAztec e) h = refl
ends_with s (kind.BarcodeDatamatrix e) h = refl
ends_with s (kind.BarcodeQr e) h = refl
ends_with s (kind.Maxicode e) h = refl
ends_with s (kind.BarcodeUcpe e) h = refl
ends_with s (kind.GraphicBox e) h = absurd (let z : ◌≡◌ {A = ℕ} 0 1 = cc in omega arith)
ends_with s (kind.DiagonalLine e) h = absurd (let z : ◌≡◌ {A = ℕ} 0 1 = cc in omega arith)
ends_with s (kind.GraphicField e) h = absurd (let z : ◌≡◌ {A = ℕ} 0 1 = cc in omega arith)

module _ (library : Library) (decoder : Decoder) where
  pub decode_keeps : (s : List ℕ) (d : DataSpan) (l : List ℕ) (k : Refusal) (p : ℕ) → (decoder.decode s d l).answer ≡ filled.Refused k p → (decoder.decode s d l).buffer ≡ l
  decode_keeps s d l k p h = keeps (due_of s d) l (decoder.decode s d l) k p h (decoder.decodes s d l)

  pub long_decode : (s : List ℕ) (d : DataSpan) (l : List ℕ) → longest < length s → Denies 14 0 l (decoder.decode s d l)
  long_decode s d l h = denies (due_of s d) l (decoder.decode s d l) (within_long longest s _ h) (decoder.decodes s d l)

  data_given : (s : List ℕ) → length s ≤ longest → (d : DataSpan) (l : List ℕ) → Gives (decode (take d.len (drop d.start s))) l (decoder.decode s d l)
  data_given s short d l = gives (due_of s d) l (decoder.decode s d l) _ (within_short longest s _ short) (decoder.decodes s d l)

  pub decoding : (s : List ℕ) → length s ≤ longest → Decoding library decoder s
  decoding s short = record {
    gives = λ start len l. data_given s short (record { start = start; len = len }) l;
    frame = λ w w' e h t. (_, front e, ends_with s e t, λ l. data_given s short (span_of e) l);
  }
