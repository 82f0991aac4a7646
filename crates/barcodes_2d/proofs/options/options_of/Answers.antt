-- `barcodes_2d::options::options_of` meets its contract. Invariant: what is taken, with the rest from at on, makes all.
-- Measure: s's length less at.
use mathlib.Core.Path.{sym, ap, ◌∙◌}
use lib.ListN.{drop}
use borrow.Author.Rules.{rules}
use Rattle.barcodes_2d.specs.Options.{options_of}
use Rattle.barcodes_2d.specs.OptionSteps.{all_taken}
use Rattle.barcodes_2d.specs.declared.options.Options.{Options}
use Rattle.barcodes_2d.proofs.OptionsLaws.{taken_pass, taken_step, taken_end}
use Rattle.barcodes_2d.proofs.options.options_of.Goals as goal

pub loop-at-init : goal.loop-at-init
loop-at-init c =
    let s = c.args.s.now in
    (search rules, ap (λ (k : Options). all_taken k (options_of s)) (sym c.no_options-o.ensures))

pub loop-at-preserved-then-is_letter : goal.loop-at-preserved-then-is_letter
loop-at-preserved-then-is_letter c =
    let s = c.args.s.now in (
      c.value_from-v.ensures.fits,
      c.loop-at.invariant.1
          ∙ taken_step s c.loop-at.at (search rules) c.loop-at.o c.value_from-v.result (sym c.is_letter.ensures ∙ c.if-is_letter.true) c.value_from-v.ensures
          ∙ ap (λ (k : Options). all_taken k (options_of (drop c.value_from-v.result.next s))) (sym c.with_option-o.ensures),
    )

pub loop-at-preserved : goal.loop-at-preserved
loop-at-preserved c = (
  search rules,
  c.loop-at.invariant.1 ∙ taken_pass c.args.s.now c.loop-at.at (search rules) c.loop-at.o (sym c.is_letter.ensures ∙ c.if-is_letter.false),
)

pub returns : goal.returns
returns c =
    sym (c.loop-at.invariant.1 ∙ taken_end c.args.s.now c.loop-at.at c.loop-at.o c.loop-at-test.false)
