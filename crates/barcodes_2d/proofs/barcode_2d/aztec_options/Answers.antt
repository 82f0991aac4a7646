-- `barcodes_2d::barcode_2d::aztec_options` meets its contract, field by field.
use mathlib.Core.Path.{refl}
use Rattle.text.specs.Ascii.{letter}
use Rattle.numbers.proofs.IntLaws.{back32}
use Rattle.barcodes_2d.specs.Barcode2d.{aztec_of}
use Rattle.barcodes_2d.specs.Options.{last_number, last_clamped}
use Rattle.barcodes_2d.specs.declared.options.Options.{Options}
use Rattle.barcodes_2d.proofs.OptionsLastLaws.{last_number_lem}
use Rattle.barcodes_2d.proofs.barcode_2d.aztec_options.Goals as goal

pub returns : goal.returns
unfolding aztec_of last_number last_clamped
returns c =
    let x = c.clamped_or-magnification in
    let y = c.number_or in
    let z = c.aztec_size-size in
    let o = c.options_of-o in
    let s = c.args.s.now in
    rw (back32 x.result x.type_inv, back32 z.result z.type_inv)
    (simp (
      x.ensures,
      simp (back32 y.result y.type_inv) at z.ensures,
      y.ensures,
      last_number_lem s o.ensures (letter "d") (λ (k : Options). k.d) refl (λ k b n a. refl),
      last_number_lem s o.ensures (letter "e") (λ (k : Options). k.e) refl (λ k b n a. refl),
    ))
