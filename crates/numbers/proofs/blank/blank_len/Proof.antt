-- `crate::blank::blank_len` meets its contract: the first byte tells, or the longer blanks are tested.
-- Assumes nothing.
use mathlib.Core.Path.{refl, sym, ap, ◌∙◌}
use native.Mathlib.Omega.{arith}
use borrow.Author.Rules.{rules}
use Rattle.text.specs.Blank.{is_blank}
use Rattle.text.proofs.BlankSteps.{size_one, size_wide, blank_first, size_plain, size_le}
use Rattle.numbers.proofs.blank.blank_len.Statement.{statement}
use Rattle.numbers.proofs.blank.blank_len.Tie as tie

returns : tie.Need-returns-then-s-eq0
returns c = omega (arith, size_le is_blank refl c.args.s.now)

returns-2 : tie.Need-returns-then-is_plain
returns-2 c = let plain = c in sym (size_plain plain.args.s.now (sym plain.is_plain.ensures ∙ c.if-is_plain.true))

returns-3 : tie.Need-returns-then-is_blank1
returns-3 c =
    let blank = c in let plain = blank in let s = plain.args.s.now in
    size_one is_blank s (blank_first s ∙ sym blank.is_blank1.ensures ∙ c.if-is_blank1.true)

returns-4 : tie.Need-returns
returns-4 c =
    let e = c in
    let blank = e in let plain = blank in let s = plain.args.s.now in
    size_wide is_blank s (blank_first s ∙ sym blank.is_blank1.ensures ∙ e.if-is_blank1.false) (ap is_blank c.first.ensures) (ap is_blank c.first-2.ensures) c.wide_len.ensures

pub blank_len_spec : {M : Type 1} → statement M
blank_len_spec =
    tie.close (tie.spec returns (λ c. search rules) (λ c κs. search rules)
    returns-2 (λ c κs. search rules)
    returns-3 (λ c κs. search rules) (λ c κs. search rules) (λ c κs. search rules)
    returns-4)
