-- `barcodes_2d::barcode_2d::datamatrix_options` meets its contract, field by field.
use mathlib.Core.Path.{refl}
use Rattle.text.specs.Ascii.{letter}
use Rattle.numbers.proofs.IntLaws.{back32}
use Rattle.barcodes_2d.specs.Barcode2d.{datamatrix_of}
use Rattle.barcodes_2d.specs.Options.{last_count, last_clamped}
use Rattle.barcodes_2d.specs.declared.options.Options.{Options}
use Rattle.barcodes_2d.proofs.OptionsLastLaws.{last_any, last_number_lem}
use Rattle.barcodes_2d.proofs.barcode_2d.datamatrix_options.Goals as goal

pub returns : goal.returns
unfolding datamatrix_of last_count last_clamped
returns c =
    let x = c.clamped_or-height in
    let y = c.number_or-columns in
    let z = c.number_or-rows in
    let o = c.options_of-o in
    let s = c.args.s.now in
    rw (back32 x.result x.type_inv, back32 y.result y.type_inv, back32 z.result z.type_inv)
    (simp (
      x.ensures,
      y.ensures,
      z.ensures,
      last_number_lem s o.ensures (letter "h") (λ (k : Options). k.h) refl (λ k b n a. refl),
      last_any s o.ensures (letter "c") (λ (k : Options). k.c) refl (λ k b n a. refl),
      last_any s o.ensures (letter "r") (λ (k : Options). k.r) refl (λ k b n a. refl),
    ))
