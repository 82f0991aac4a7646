-- Texts as they are written, read back with their sizes, and which sizes texts have. Assumes nothing.
use mathlib.Core.Path.{◌≡◌, refl, sym, ap, ◌∙◌, subst}
use mathlib.Core.Bool.{Bool, true, ◌&&◌, true≢false}
use mathlib.Core.List.{List}
use Prim.Native.Nat.{ℕ, ◌<◌}
use native.Mathlib.Omega.{arith}
use lib.Dec.{T}
use lib.IntN.{ℤ, pos, ◌*ℤ◌}
use lib.Ieee.{Float, binary64, to_bits, of_bits, of_int, div, lt, fits}
use lib.Ieee.Bits.{of_bits-to_bits, of_bits-fits}
use lib.Ieee.Fits.{of_int-fits, div-fits, cond-fits}
use lib.ListN.{length}
use lib.Signed.{le_z}
use borrow.Author.Tests.{eqb-true, eq-eqb}
use Rattle.text.specs.Fields.{field}
use Rattle.elements.specs.declared.FontScale.{FontScale}
use Rattle.text.proofs.BoolLaws.{test, and_both}
use Rattle.numbers.specs.Int.{in32, eq_z}
use Rattle.elements.specs.declared.FieldOrientation.{FieldOrientation}
use Rattle.elements.specs.declared.FontInfo.{FontInfo}
use Rattle.elements.specs.declared.LabelElement.TheVariants as element
use Rattle.elements.specs.declared.LabelPosition.{LabelPosition}
use Rattle.parameters.specs.declared.reading.LineReading.TheVariants as reading
use Rattle.parameters.specs.Rotation.{rotation_of}
use Rattle.texts.specs.declared.fonts.Scaled.{Scaled}
use Rattle.texts.specs.declared.fonts.Scaled.TheVariants.{Font, Outside}
use Rattle.texts.specs.Font.{cell_of, width_of, font_of}
use Rattle.texts.specs.Text.{text_fields, text_element}
use Rattle.command_letters.specs.declared.command.DataCommand.TheVariants.{Text}
use Rattle.commands.specs.Line.{read_line}
use Rattle.spellings.specs.Quoted.{quoted_line, span_in}
use Rattle.spellings.specs.Codes.{turns, text_params}
use Rattle.spellings.specs.Fonts.{same_bits, same_font, fine_font, fine_ratio}
use Rattle.barcodes.specs.Ratio.{two, ratio_of}
use Rattle.spellings.proofs.FieldLaws.{In32, origin, placed_origin}
use Rattle.spellings.proofs.CodeLaws.{turned, text_line_lem}
use Rattle.spellings.proofs.BoundLaws.{both, size_ge}

-- floats of the same bits are the same

pub same_float : (x y : Float) → T (fits binary64 x) → T (fits binary64 y) → same_bits x y ≡ true → x ≡ y
same_float x y h g e =
    sym (of_bits-to_bits binary64 x h) ∙ ap (of_bits binary64) (eqb-true (to_bits binary64 x) (to_bits binary64 y) e) ∙ of_bits-to_bits binary64 y g

-- a font's sizes are floats, its rotation is the one asked for

abbrev Sound : ℤ → Scaled → Type 0
Sound r (Font j) = T (fits binary64 j.height) × T (fits binary64 j.width) × (j.rotation ≡ rotation_of r)
Sound r Outside = Unit

font_sound : (n h v r : ℤ) → Sound r (font_of n h v r)
unfolding font_of width_of
font_sound n h v r =
    let height = (cell_of n).height *ℤ v in let across = h *ℤ (cell_of n).width in
    let fh = of_int-fits binary64 height in
    test (in32 height)
    (λ e. test (eq_z h v)
    (λ f. simp (e, f) (fh, fh, refl))
    (λ f. test (in32 across)
    (λ g. simp (e, f, g) (fh, div-fits binary64 _ _, refl))
    (λ g. simp (e, f, g) tt)))
    (λ e. simp e tt)

pub record FontFits (i : FontInfo) : Type 0 where
  pub height : T (fits binary64 i.height)
  pub width : T (fits binary64 i.width)

font_same : (r : ℤ) (s : Scaled) (i : FontInfo) → Sound r s → FontFits i → rotation_of r ≡ i.rotation → same_font s i ≡ true → s ≡ Font i
font_same r (Font j) i d f o e =
    let k = and_both (same_bits j.height i.height) (same_bits j.width i.width) e in
    let a = same_float j.height i.height d.0 f.height k.0 in
    let b = same_float j.width i.width d.1 f.width k.1 in
    let c = d.2 ∙ o in
    ap (λ (x : Float). Font (record { height = x; width = j.width; rotation = j.rotation })) a
    ∙ ap (λ (x : Float). Font (record { height = i.height; width = x; rotation = j.rotation })) b
    ∙ ap (λ (x : FieldOrientation). Font (record { height = i.height; width = i.width; rotation = x })) c
font_same r Outside i d f o e = absurd (true≢false (sym e))

-- a text with its font and multipliers, read back
pub text_written : (p : LabelPosition) (c : FontScale) (reverse : Bool) (i : FontInfo) (d : List ℕ) → In32 p.x → In32 p.y → In32 c.font → In32 c.horizontal → In32 c.vertical → FontFits i → fine_font c i ≡ true → 0 < length d
    → read_line (quoted_line Text (text_params p i.rotation c reverse) d) origin
    ≡ reading.Element (element.Text (record { position = p; reverse_print = reverse; scale = c; font = i; text = span_in (text_params p i.rotation c reverse) d }))
unfolding fine_font text_element
text_written p c reverse i d hx hy hn hh hv f e l =
    let n = c.font in let h = c.horizontal in let v = c.vertical in
    let k = and_both (le_z (pos 1) h && le_z (pos 1) v) (same_font (font_of n h v (turns i.rotation)) i) e in
    let j = and_both (le_z (pos 1) h) (le_z (pos 1) v) k.0 in
    let s = font_same (turns i.rotation) (font_of n h v (turns i.rotation)) i (font_sound n h v (turns i.rotation)) f (turned i.rotation) k.1 in
    text_line_lem p i.rotation c reverse hx hy hn hh hv j.0 j.1 d origin l
    ∙ rw (s, placed_origin p.x p.y hx hy) refl

-- and a text that a line yields has the sizes of the font and multipliers that stand there

turns_same : (n h v r : ℤ) → font_of n h v (turns (rotation_of r)) ≡ font_of n h v r
unfolding font_of
turns_same n h v r = rw (turned (rotation_of r)) refl

same_self : (r : ℤ) (s : Scaled) (i : FontInfo) → s ≡ Font i → same_font s i ≡ true
same_self r s i e = rw e (both (eq-eqb (to_bits binary64 i.height) (to_bits binary64 i.height) refl) (eq-eqb (to_bits binary64 i.width) (to_bits binary64 i.width) refl))

rotation_of_lem : (r : ℤ) (s : Scaled) (i : FontInfo) → Sound r s → s ≡ Font i → i.rotation ≡ rotation_of r
rotation_of_lem r (Font j) i d e = let k : j ≡ i = cc in ap (λ (x : FontInfo). x.rotation) (sym k) ∙ d.2
rotation_of_lem r Outside i d e = let o : ◌≡◌ {A = ℕ} 0 1 = cc in absurd (omega arith)

scale_ge : (s : List ℕ) → (le_z (pos 1) (text_fields s).scale.horizontal ≡ true) × (le_z (pos 1) (text_fields s).scale.vertical ≡ true)
unfolding text_fields
scale_ge s = (size_ge (pos 1) (field s 4), size_ge (pos 1) (field s 5))

pub font_exact : (s : List ℕ) (i : FontInfo) → font_of (text_fields s).scale.font (text_fields s).scale.horizontal (text_fields s).scale.vertical (text_fields s).rotation ≡ Font i → fine_font (text_fields s).scale i ≡ true
unfolding fine_font
font_exact s i k =
    let f = text_fields s in let n = f.scale.font in let h = f.scale.horizontal in let v = f.scale.vertical in let r = f.rotation in
    let q = rotation_of_lem r (font_of n h v r) i (font_sound n h v r) k in
    let g = scale_ge s in
    both (both g.0 g.1)
    (subst (λ (x : FieldOrientation). same_font (font_of n h v (turns x)) i ≡ true) (sym q) (same_self r (font_of n h v (turns (rotation_of r))) i (turns_same n h v r ∙ k)))

-- the ratio of kinds 09 and 0a
pub ratio_is : (w n : ℤ) (x : Float) → T (fits binary64 x) → fine_ratio w n x ≡ true → ratio_of w n ≡ x
unfolding fine_ratio ratio_of
ratio_is w n x h e =
    let q = div binary64 (of_int binary64 w) (of_int binary64 n) in
    same_float (ratio_of w n) x (cond-fits binary64 (lt q two) two q (of_bits-fits binary64 0x4000_0000_0000_0000) (div-fits binary64 (of_int binary64 w) (of_int binary64 n))) h e

pub ratio_same : (w n : ℤ) → fine_ratio w n (ratio_of w n) ≡ true
unfolding fine_ratio
ratio_same w n = eq-eqb (to_bits binary64 (ratio_of w n)) (to_bits binary64 (ratio_of w n)) refl
