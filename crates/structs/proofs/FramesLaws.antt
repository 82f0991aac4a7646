-- A flat answer has every field of its frame (`flat_frame`), its element's kind (`flat_kind`), and the state that the
-- step returned (`flat_next`). Assumes nothing.
use mathlib.Core.Path.{◌≡◌, refl}
use mathlib.Core.List.{List}
use Prim.Native.Nat.{ℕ}
use Rattle.elements.specs.declared.LabelElement.{LabelElement}
use Rattle.elements.specs.declared.LabelElement.TheVariants as kind
use Rattle.frame_bytes.specs.Frame.{be32, head, extent_bytes, bar_bytes, row_bytes, scale_bytes, field_bytes, frame_of}
use Rattle.elements.specs.declared.LabelPosition.{LabelPosition}
use Rattle.walk_theory.specs.Step.{State, element, cleared, printed, ended, refused}
use Rattle.walk.specs.Steps.{EplAnswer, state_of}
use Rattle.structs.specs.Steps.{flat_of}
use Rattle.structs.specs.Frames.{frame_flat, answer_frame, state_in}

frame_flat_lem : (s : List ℕ) (e : LabelElement) (st : State LabelPosition)
    → frame_flat s (flat_of (element e st)) ≡ frame_of s e
unfolding be32 head extent_bytes bar_bytes row_bytes scale_bytes field_bytes frame_of
frame_flat_lem s (kind.Text e) st = refl
frame_flat_lem s (kind.GraphicBox e) st = refl
frame_flat_lem s (kind.DiagonalLine e) st = refl
frame_flat_lem s (kind.GraphicField e) st = refl
frame_flat_lem s (kind.Barcode128 e) st = refl
frame_flat_lem s (kind.BarcodeEan13 e) st = refl
frame_flat_lem s (kind.BarcodeEan8 e) st = refl
frame_flat_lem s (kind.BarcodeUca e) st = refl
frame_flat_lem s (kind.Barcode2of5 e) st = refl
frame_flat_lem s (kind.Barcode39 e) st = refl
frame_flat_lem s (kind.BarcodePdf417 e) st = refl
frame_flat_lem s (kind.BarcodeAztec e) st = refl
frame_flat_lem s (kind.BarcodeDatamatrix e) st = refl
frame_flat_lem s (kind.BarcodeQr e) st = refl
frame_flat_lem s (kind.Maxicode e) st = refl
frame_flat_lem s (kind.BarcodeUcpe e) st = refl

pub flat_frame : (s : List ℕ) (a : EplAnswer) → frame_flat s (flat_of a) ≡ answer_frame s a
flat_frame s (element e st) = frame_flat_lem s e st
flat_frame s (cleared st) = refl
flat_frame s (printed n q st) = refl
flat_frame s (ended st) = refl
flat_frame s (refused n p st) = refl

pub flat_kind : (e : LabelElement) (st : State LabelPosition)
    → (flat_of (element e st)).element.kind ≡ (flat_of (element e st)).kind
flat_kind e st = refl

pub flat_next : (a : EplAnswer) → state_of (flat_of a).next ≡ state_in a
flat_next (element e st) = refl
flat_next (cleared st) = refl
flat_next (printed n q st) = refl
flat_next (ended st) = refl
flat_next (refused n p st) = refl
