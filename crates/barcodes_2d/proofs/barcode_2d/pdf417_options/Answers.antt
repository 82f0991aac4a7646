-- `barcodes_2d::barcode_2d::pdf417_options` meets its contract, field by field.
use mathlib.Core.Path.{refl}
use native.Mathlib.Omega.{arith}
use Rattle.text.specs.Ascii.{letter}
use Rattle.numbers.proofs.IntLaws.{back32}
use Rattle.barcodes_2d.specs.Barcode2d.{pdf417_module_width, pdf417_row_height, pdf417_of}
use Rattle.barcodes_2d.specs.Options.{last_count, last_number, last_clamped}
use Rattle.barcodes_2d.specs.declared.options.Options.{Options}
use Rattle.barcodes_2d.specs.OptionSteps.{number_of}
use Rattle.barcodes_2d.proofs.Barcode2dLaws.{clamped_or_le}
use Rattle.barcodes_2d.proofs.OptionsLastLaws.{last_any, last_number_lem, last_truncate}
use Rattle.barcodes_2d.proofs.barcode_2d.pdf417_options.Goals as goal

pub pdf417_row_height-row_height-requires : goal.pdf417_row_height-row_height-requires
pdf417_row_height-row_height-requires c =
    let w = c.clamped_or-module_width in
    let o = c.options_of-o.result in
    rw (back32 w.result w.type_inv, w.ensures) (clamped_or_le 6 2 9 (number_of o.x) (omega arith))

pub returns : goal.returns
unfolding pdf417_of pdf417_row_height pdf417_module_width last_count last_number last_clamped
returns c =
    let m = c.clamped_or-module_width in
    let y = c.pdf417_row_height-row_height in
    let i = c.clamped_or-security in
    let l = c.number_or-columns in
    let r = c.number_or-rows in
    let o = c.options_of-o in
    let s = c.args.s.now in
    rw (back32 y.result y.type_inv, back32 i.result i.type_inv, back32 l.result l.type_inv, back32 r.result r.type_inv, back32 m.result m.type_inv)
    (simp (
      simp (back32 c.number_or.result c.number_or.type_inv) at c.epl_rotation-orientation.ensures,
      c.number_or.ensures,
      simp (back32 m.result m.type_inv) at y.ensures,
      m.ensures,
      i.ensures,
      l.ensures,
      r.ensures,
      last_truncate s o.ensures,
      last_number_lem s o.ensures (letter "o") (λ (k : Options). k.o) refl (λ k b n a. refl),
      last_number_lem s o.ensures (letter "y") (λ (k : Options). k.y) refl (λ k b n a. refl),
      last_number_lem s o.ensures (letter "s") (λ (k : Options). k.s) refl (λ k b n a. refl),
      last_number_lem s o.ensures (letter "x") (λ (k : Options). k.x) refl (λ k b n a. refl),
      last_any s o.ensures (letter "l") (λ (k : Options). k.l) refl (λ k b n a. refl),
      last_any s o.ensures (letter "r") (λ (k : Options). k.r) refl (λ k b n a. refl),
    ))
