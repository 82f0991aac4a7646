-- `barcodes_2d::barcode_2d::maxicode_mode` meets its contract: each arm's tests decide the definition's.
use mathlib.Core.Path.{◌≡◌, refl, sym, ap, ◌∙◌}
use Rattle.std.proofs.Common.{arith}
use Rattle.std.proofs.lemmas.Grind.{common_steps}
use Rattle.barcodes_2d.specs.OptionSteps.{all_taken, no_options, number_of}
use mathlib.Core.List.{List}
use Prim.Native.Nat.{ℕ}
use lib.IntN.{ℤ, pos}
use Rattle.text.specs.Ascii.{letter}
use Rattle.numbers.specs.Number.{number_or}
use Rattle.barcodes_2d.specs.Barcode2d.{mode_of}
use Rattle.barcodes_2d.specs.Options.{options_of, last_count}
use Rattle.barcodes_2d.specs.declared.options.Options.{Options}
use Rattle.barcodes_2d.proofs.OptionsLastLaws.{last_any}
use Rattle.barcodes_2d.proofs.barcode_2d.maxicode_mode.Goals as goal

is : (s : List ℕ) (o : Options) (m : ℤ) → o ≡ all_taken no_options (options_of s) → m ≡ number_or (pos 0) (number_of o.m) → last_count (letter "m") (options_of s) ≡ m
unfolding last_count
is s o m e f = ap (number_or (pos 0)) (last_any s e (letter "m") (λ (k : Options). k.m) refl (λ k b n a. refl)) ∙ sym f

pub returns-in_default : goal.returns-in_default
unfolding mode_of
returns-in_default c = rw (is _ _ _ c.options_of-o.ensures c.number_or-m.ensures) (grind (arith, common_steps))

pub returns-in-2 : goal.returns-in-2
unfolding mode_of
returns-in-2 c = rw (is _ _ _ c.options_of-o.ensures c.number_or-m.ensures) (grind (arith, common_steps))

pub returns-in-2-2 : goal.returns-in-2-2
unfolding mode_of
returns-in-2-2 c = rw (is _ _ _ c.options_of-o.ensures c.number_or-m.ensures) (grind (arith, common_steps))
