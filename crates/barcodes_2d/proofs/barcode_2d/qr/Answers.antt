-- `barcodes_2d::barcode_2d::qr` meets its contract, by the count of the decoded data, then by where it stands.
use mathlib.Core.Path.{◌≡◌, refl, sym, ◌∙◌}
use mathlib.Core.Bool.{Bool, true, false, not}
use Rattle.text.specs.Ascii.{letter}
use borrow.Author.Tests.{not-true, not-false}
use Rattle.numbers.proofs.IntLaws.{back32}
use Rattle.barcodes_2d.specs.Barcode2d.{qr_of, qr_reading}
use Rattle.barcodes_2d.specs.Options.{last_clamped}
use Rattle.barcodes_2d.specs.declared.options.Options.{Options}
use Rattle.barcodes_2d.proofs.OptionsLastLaws.{last_number_lem, last_level}
use Rattle.barcodes_2d.proofs.barcode_2d.qr.Goals as goal

over : (b o : Bool) → o ≡ not b → o ≡ true → b ≡ false
over b o e t = not-true b (sym e ∙ t)

within : (b o : Bool) → o ≡ not b → o ≡ false → b ≡ true
within b o e f = not-false b (sym e ∙ f)

pub returns-then-is_over : goal.returns-then-is_over
unfolding qr_reading
returns-then-is_over c = simp (over _ _ c.is_over.ensures c.if-is_over.true)

pub returns-in_default : goal.returns-in_default
unfolding qr_reading
returns-in_default c = simp (within _ _ c.is_over.ensures c.if-is_over.false, c.in_default.is)

pub returns : goal.returns
unfolding qr_reading qr_of last_clamped
returns c =
    let m = c.clamped_or-magnification in
    let o = c.options_of-o in
    let s = c.args.s.now in
    rw (back32 m.result m.type_inv)
    (simp (
      within _ _ c.is_over.ensures c.if-is_over.false,
      c.in-At.is,
      m.ensures,
      last_number_lem s o.ensures (letter "s") (λ (k : Options). k.s) refl (λ k b n a. refl),
      c.qr_level-error_correction.ensures,
      last_level s o.ensures,
    ))
