-- `barcodes_2d::options::digits_from` meets its contract. Invariant: `Ran`, v is what the digits before end are worth.
-- Measure: s's length less end.
use mathlib.Core.Path.{◌≡◌, sym, ◌∙◌}
use native.Mathlib.Omega.{arith}
use lib.ListN.{get_or, drop}
use mathlib.Core.List.{[]}
use Rattle.text.specs.Blank.{front}
use borrow.Author.Rules.{rules}
use Rattle.text.specs.Class.{is_digit}
use Rattle.text.proofs.BoolLaws.{within_low, within_high}
use Rattle.barcodes_2d.proofs.OptionsLaws.{ran_first, ran_digit, ran_value, ran_alone, ran_more, front_stop, front_end}
use Rattle.barcodes_2d.proofs.options.digits_from.Goals as goal
use Rattle.barcodes_2d.proofs.options.digits_from.Goals.{then-loop-end-test+else-is_digit, else-loop-end-test, then-end-from, else-end-from}

pub overflow_sub-v : goal.overflow_sub-v
overflow_sub-v c = within_low 48 57 (get_or c.args.s.now c.args.from 0) c.requires.1

pub overflow_cast-v : goal.overflow_cast-v
overflow_cast-v c = record { fits = omega (arith, within_high 48 57 (get_or c.args.s.now c.args.from 0) c.requires.1) }

pub loop-end-init : goal.loop-end-init
loop-end-init c = ran_first c.args.s.now c.args.from c.requires.0 c.requires.1

pub with_digit-v-requires : goal.with_digit-v-requires
with_digit-v-requires c = (c.loop-end.invariant.small, sym c.is_digit.ensures ∙ c.if-is_digit.true)

pub loop-end-preserved : goal.loop-end-preserved
loop-end-preserved c =
    rw c.with_digit-v.ensures (ran_digit c.args.s.now c.loop-end.end (search rules) (sym c.is_digit.ensures ∙ c.if-is_digit.true) c.args.from c.loop-end.v c.loop-end.invariant)

pub returns : goal.returns
returns c =
    let t = c.args.s.now in
    let stop : front is_digit (drop c.loop-end.end t) ≡ [] = elim c.loop-end-test.branch [
      | then-loop-end-test+else-is_digit w ↦ front_stop t c.loop-end.end w.loop-end-test.true (sym w.is_digit.ensures ∙ w.if-is_digit.false)
      | else-loop-end-test w ↦ front_end t c.loop-end.end w.loop-end-test.false
    ] in
    ran_value c.loop-end.invariant stop c.if-end-from.alone
    (elim c.if-end-from.branch [
      | then-end-from w ↦ w.alone-is ∙ ran_alone c.loop-end.invariant stop c.requires.0 c.requires.1 w.if-end-from.true
      | else-end-from w ↦ w.alone-is ∙ ran_more c.loop-end.invariant stop w.if-end-from.false
    ])
