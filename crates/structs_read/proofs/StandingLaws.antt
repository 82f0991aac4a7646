-- The struct of an element is told to be one (`standing_flat`), and a struct that is told to be one is that of its
-- element (`standing_told`). Assumes nothing.
use mathlib.Core.Path.{◌≡◌, refl, ap, ◌∙◌}
use mathlib.Core.Bool.{Bool, true, false, cond, ◌&&◌}
use lib.Dec.{T, eqb}
use lib.Ieee.{Float, binary64, fits, of_bits, to_bits}
use lib.Ieee.Bits.{of_bits-fits}
use borrow.Author.Tests.{eqb-true, eq-eqb}
use Rattle.text.proofs.BoolLaws.{and_both}
use Rattle.elements.specs.declared.LabelElement.{LabelElement}
use Rattle.elements.specs.declared.LabelElement.TheVariants as element
use Rattle.structs.specs.declared.answer.Element.{Element}
use Rattle.structs.specs.Flat.{flat_element}
use Rattle.numbers.specs.Int.{eq_z}
use Rattle.spellings.specs.Fonts.{same_bits}
use Rattle.spellings.proofs.BoundLaws.{both}
use Rattle.spellings.proofs.DrawLaws.{eq_z_true, eq_z_refl}
use Rattle.spellings.proofs.FontLaws.{same_float}
use Rattle.structs_read.specs.Unflat as unflat
use Rattle.structs_read.specs.Unflat.{element_of, same_element, standing, Sized}
use Rattle.structs_read.specs.Unflat.{same_flags, same_places, same_counts, same_modules, same_scales, same_sizes, same_data}
use Rattle.structs_read.proofs.UnflatLaws.{back}

-- ---- a struct is the same as itself

flags_self : (x : Element) → same_flags x x ≡ true
flags_self x =
    both (both (both (both (both (both (both (both (eq-eqb x.kind x.kind refl) (eq-eqb x.rotation x.rotation refl)) (eq-eqb x.reverse x.reverse refl)) (eq-eqb x.colour x.colour refl)) (eq-eqb x.direction x.direction refl)) (eq-eqb x.line x.line refl)) (eq-eqb x.check x.check refl)) (eq-eqb x.truncate x.truncate refl)) (eq-eqb x.level x.level refl)

places_self : (x : Element) → same_places x x ≡ true
places_self x = both (both (both (eq_z_refl x.x) (eq_z_refl x.y)) (eq_z_refl x.width)) (eq_z_refl x.height)

counts_self : (x : Element) → same_counts x x ≡ true
counts_self x = both (both (both (eq_z_refl x.thickness) (eq_z_refl x.row_bytes)) (eq_z_refl x.security)) (eq_z_refl x.columns)

modules_self : (x : Element) → same_modules x x ≡ true
modules_self x = both (both (both (eq_z_refl x.rows) (eq_z_refl x.magnification)) (eq_z_refl x.size)) (eq_z_refl x.mode)

scales_self : (x : Element) → same_scales x x ≡ true
scales_self x = both (both (both (eq_z_refl x.font) (eq_z_refl x.horizontal)) (eq_z_refl x.vertical)) (eq_z_refl x.wide)

bits_self : (x : Float) → same_bits x x ≡ true
bits_self x = eq-eqb (to_bits binary64 x) (to_bits binary64 x) refl

sizes_self : (x : Element) → same_sizes x x ≡ true
sizes_self x = both (both (bits_self x.text_height) (bits_self x.text_width)) (bits_self x.ratio)

data_self : (x : Element) → same_data x x ≡ true
data_self x = both (eq-eqb x.data_start x.data_start refl) (eq-eqb x.data_len x.data_len refl)

same_self : (x : Element) → same_element x x ≡ true
unfolding same_element
same_self x = both (both (both (both (both (both (flags_self x) (places_self x)) (counts_self x)) (modules_self x)) (scales_self x)) (sizes_self x)) (data_self x)

pub standing_flat : (e : LabelElement) → standing (flat_element e) ≡ true
standing_flat e =
    ap (λ (f : LabelElement). same_element (flat_element f) (flat_element e)) (back e) ∙ same_self (flat_element e)

-- ---- structs that are the same are one

flags_told : (a b : Element) → same_flags a b ≡ true → (a.kind ≡ b.kind) × (a.rotation ≡ b.rotation) × (a.reverse ≡ b.reverse) × (a.colour ≡ b.colour) × (a.direction ≡ b.direction) × (a.line ≡ b.line) × (a.check ≡ b.check) × (a.truncate ≡ b.truncate) × (a.level ≡ b.level)
flags_told a b h =
    let p8 = and_both (eqb a.kind b.kind && eqb a.rotation b.rotation && eqb a.reverse b.reverse && eqb a.colour b.colour && eqb a.direction b.direction && eqb a.line b.line && eqb a.check b.check && eqb a.truncate b.truncate) (eqb a.level b.level) (h) in
    let p7 = and_both (eqb a.kind b.kind && eqb a.rotation b.rotation && eqb a.reverse b.reverse && eqb a.colour b.colour && eqb a.direction b.direction && eqb a.line b.line && eqb a.check b.check) (eqb a.truncate b.truncate) p8.0 in
    let p6 = and_both (eqb a.kind b.kind && eqb a.rotation b.rotation && eqb a.reverse b.reverse && eqb a.colour b.colour && eqb a.direction b.direction && eqb a.line b.line) (eqb a.check b.check) p7.0 in
    let p5 = and_both (eqb a.kind b.kind && eqb a.rotation b.rotation && eqb a.reverse b.reverse && eqb a.colour b.colour && eqb a.direction b.direction) (eqb a.line b.line) p6.0 in
    let p4 = and_both (eqb a.kind b.kind && eqb a.rotation b.rotation && eqb a.reverse b.reverse && eqb a.colour b.colour) (eqb a.direction b.direction) p5.0 in
    let p3 = and_both (eqb a.kind b.kind && eqb a.rotation b.rotation && eqb a.reverse b.reverse) (eqb a.colour b.colour) p4.0 in
    let p2 = and_both (eqb a.kind b.kind && eqb a.rotation b.rotation) (eqb a.reverse b.reverse) p3.0 in
    let p1 = and_both (eqb a.kind b.kind) (eqb a.rotation b.rotation) p2.0 in
    (eqb-true a.kind b.kind p1.0, eqb-true a.rotation b.rotation p1.1, eqb-true a.reverse b.reverse p2.1, eqb-true a.colour b.colour p3.1, eqb-true a.direction b.direction p4.1, eqb-true a.line b.line p5.1, eqb-true a.check b.check p6.1, eqb-true a.truncate b.truncate p7.1, eqb-true a.level b.level p8.1)

places_told : (a b : Element) → same_places a b ≡ true → (a.x ≡ b.x) × (a.y ≡ b.y) × (a.width ≡ b.width) × (a.height ≡ b.height)
places_told a b h =
    let p3 = and_both (eq_z a.x b.x && eq_z a.y b.y && eq_z a.width b.width) (eq_z a.height b.height) (h) in
    let p2 = and_both (eq_z a.x b.x && eq_z a.y b.y) (eq_z a.width b.width) p3.0 in
    let p1 = and_both (eq_z a.x b.x) (eq_z a.y b.y) p2.0 in
    (eq_z_true a.x b.x p1.0, eq_z_true a.y b.y p1.1, eq_z_true a.width b.width p2.1, eq_z_true a.height b.height p3.1)

counts_told : (a b : Element) → same_counts a b ≡ true → (a.thickness ≡ b.thickness) × (a.row_bytes ≡ b.row_bytes) × (a.security ≡ b.security) × (a.columns ≡ b.columns)
counts_told a b h =
    let p3 = and_both (eq_z a.thickness b.thickness && eq_z a.row_bytes b.row_bytes && eq_z a.security b.security) (eq_z a.columns b.columns) (h) in
    let p2 = and_both (eq_z a.thickness b.thickness && eq_z a.row_bytes b.row_bytes) (eq_z a.security b.security) p3.0 in
    let p1 = and_both (eq_z a.thickness b.thickness) (eq_z a.row_bytes b.row_bytes) p2.0 in
    (eq_z_true a.thickness b.thickness p1.0, eq_z_true a.row_bytes b.row_bytes p1.1, eq_z_true a.security b.security p2.1, eq_z_true a.columns b.columns p3.1)

modules_told : (a b : Element) → same_modules a b ≡ true → (a.rows ≡ b.rows) × (a.magnification ≡ b.magnification) × (a.size ≡ b.size) × (a.mode ≡ b.mode)
modules_told a b h =
    let p3 = and_both (eq_z a.rows b.rows && eq_z a.magnification b.magnification && eq_z a.size b.size) (eq_z a.mode b.mode) (h) in
    let p2 = and_both (eq_z a.rows b.rows && eq_z a.magnification b.magnification) (eq_z a.size b.size) p3.0 in
    let p1 = and_both (eq_z a.rows b.rows) (eq_z a.magnification b.magnification) p2.0 in
    (eq_z_true a.rows b.rows p1.0, eq_z_true a.magnification b.magnification p1.1, eq_z_true a.size b.size p2.1, eq_z_true a.mode b.mode p3.1)

scales_told : (a b : Element) → same_scales a b ≡ true → (a.font ≡ b.font) × (a.horizontal ≡ b.horizontal) × (a.vertical ≡ b.vertical) × (a.wide ≡ b.wide)
scales_told a b h =
    let p3 = and_both (eq_z a.font b.font && eq_z a.horizontal b.horizontal && eq_z a.vertical b.vertical) (eq_z a.wide b.wide) (h) in
    let p2 = and_both (eq_z a.font b.font && eq_z a.horizontal b.horizontal) (eq_z a.vertical b.vertical) p3.0 in
    let p1 = and_both (eq_z a.font b.font) (eq_z a.horizontal b.horizontal) p2.0 in
    (eq_z_true a.font b.font p1.0, eq_z_true a.horizontal b.horizontal p1.1, eq_z_true a.vertical b.vertical p2.1, eq_z_true a.wide b.wide p3.1)

sizes_told : (a b : Element) → Sized a → Sized b → same_sizes a b ≡ true → (a.text_height ≡ b.text_height) × (a.text_width ≡ b.text_width) × (a.ratio ≡ b.ratio)
sizes_told a b s t h =
    let p2 = and_both (same_bits a.text_height b.text_height && same_bits a.text_width b.text_width) (same_bits a.ratio b.ratio) (h) in
    let p1 = and_both (same_bits a.text_height b.text_height) (same_bits a.text_width b.text_width) p2.0 in
    (same_float a.text_height b.text_height s.height t.height p1.0, same_float a.text_width b.text_width s.width t.width p1.1, same_float a.ratio b.ratio s.ratio t.ratio p2.1)

data_told : (a b : Element) → same_data a b ≡ true → (a.data_start ≡ b.data_start) × (a.data_len ≡ b.data_len)
data_told a b h =
    let p1 = and_both (eqb a.data_start b.data_start) (eqb a.data_len b.data_len) (h) in
    (eqb-true a.data_start b.data_start p1.0, eqb-true a.data_len b.data_len p1.1)

same_told : (a b : Element) → Sized a → Sized b → same_element a b ≡ true → a ≡ b
unfolding same_element
same_told a b s t h =
    let p6 = and_both (same_flags a b && same_places a b && same_counts a b && same_modules a b && same_scales a b && same_sizes a b) (same_data a b) (h) in
    let p5 = and_both (same_flags a b && same_places a b && same_counts a b && same_modules a b && same_scales a b) (same_sizes a b) p6.0 in
    let p4 = and_both (same_flags a b && same_places a b && same_counts a b && same_modules a b) (same_scales a b) p5.0 in
    let p3 = and_both (same_flags a b && same_places a b && same_counts a b) (same_modules a b) p4.0 in
    let p2 = and_both (same_flags a b && same_places a b) (same_counts a b) p3.0 in
    let p1 = and_both (same_flags a b) (same_places a b) p2.0 in
    let f = flags_told a b p1.0 in
    let p = places_told a b p1.1 in
    let c = counts_told a b p2.1 in
    let m = modules_told a b p3.1 in
    let z = scales_told a b p4.1 in
    let w = sizes_told a b s t p5.1 in
    let d = data_told a b p6.1 in
    λ i. record {
      kind = f.0 i;
      rotation = f.1 i;
      reverse = f.2 i;
      colour = f.3 i;
      direction = f.4 i;
      line = f.5 i;
      check = f.6 i;
      truncate = f.7 i;
      level = f.8 i;
      x = p.0 i;
      y = p.1 i;
      width = p.2 i;
      height = p.3 i;
      thickness = c.0 i;
      row_bytes = c.1 i;
      security = c.2 i;
      columns = c.3 i;
      rows = m.0 i;
      magnification = m.1 i;
      size = m.2 i;
      mode = m.3 i;
      font = z.0 i;
      horizontal = z.1 i;
      vertical = z.2 i;
      wide = z.3 i;
      text_height = w.0 i;
      text_width = w.1 i;
      ratio = w.2 i;
      data_start = d.0 i;
      data_len = d.1 i;
    }

-- ---- the struct of the element that a struct stands for has its sizes, or (sized zero zero zero)

zero : T (fits binary64 (of_bits binary64 0))
zero = of_bits-fits binary64 0

sized : {x : Element} → T (fits binary64 x.text_height) → T (fits binary64 x.text_width) → T (fits binary64 x.ratio) → Sized x
sized h w r = record { height = h; width = w; ratio = r }

abbrev Has : LabelElement → Type 0
Has e = Sized (flat_element e)

either : (t : Bool) (e f : LabelElement) → Has e → Has f → Has (cond t e f)
either true e f h g = h
either false e f h g = g

sized_flat : (x : Element) → Sized x → Sized (flat_element (element_of x))
sized_flat x s =
    either (eqb x.kind 1) (element.Text (unflat.text_of x)) _ (sized s.height s.width zero)
    (either (eqb x.kind 2) (element.GraphicBox (unflat.box_of x)) _ (sized zero zero zero)
    (either (eqb x.kind 3) (element.DiagonalLine (unflat.diagonal_of x)) _ (sized zero zero zero)
    (either (eqb x.kind 4) (element.GraphicField (unflat.graphic_of x)) _ (sized zero zero zero)
    (either (eqb x.kind 5) (element.Barcode128 (unflat.code128_of x)) _ (sized zero zero zero)
    (either (eqb x.kind 6) (element.BarcodeEan13 (unflat.ean13_of x)) _ (sized zero zero zero)
    (either (eqb x.kind 7) (element.BarcodeEan8 (unflat.ean8_of x)) _ (sized zero zero zero)
    (either (eqb x.kind 8) (element.BarcodeUca (unflat.upca_of x)) _ (sized zero zero zero)
    (either (eqb x.kind 9) (element.Barcode2of5 (unflat.interleaved_of x)) _ (sized zero zero s.ratio)
    (either (eqb x.kind 10) (element.Barcode39 (unflat.code39_of x)) _ (sized zero zero s.ratio)
    (either (eqb x.kind 11) (element.BarcodePdf417 (unflat.pdf417_of x)) _ (sized zero zero zero)
    (either (eqb x.kind 12) (element.BarcodeAztec (unflat.aztec_of x)) _ (sized zero zero zero)
    (either (eqb x.kind 13) (element.BarcodeDatamatrix (unflat.datamatrix_of x)) _ (sized zero zero zero)
    (either (eqb x.kind 14) (element.BarcodeQr (unflat.qr_of x)) _ (sized zero zero zero)
    (either (eqb x.kind 15) (element.Maxicode (unflat.maxicode_of x)) _ (sized zero zero zero)
    (sized zero zero zero)))))))))))))))

pub standing_told : (x : Element) → Sized x → standing x ≡ true → flat_element (element_of x) ≡ x
standing_told x s h = same_told (flat_element (element_of x)) x (sized_flat x s) s h
