-- `crate::blank::end_blank_len` meets its contract: the last byte tells, or the longer blanks are tested.
-- Assumes nothing.
use mathlib.Core.Path.{sym, ap, ◌∙◌}
use mathlib.Core.List.{reverse}
use native.Mathlib.Omega.{arith}
use borrow.Author.Rules.{rules}
use Rattle.text.specs.Blank.{is_blank, back}
use Rattle.text.proofs.BlankSteps.{size_one, size_wide, blank_last, end_plain, end_le}
use Rattle.numbers.proofs.blank.end_blank_len.Statement.{statement}
use Rattle.numbers.proofs.blank.end_blank_len.Tie as tie

returns : tie.Need-returns-then-s-eq0
returns c = omega (arith, end_le c.args.s.now)

returns-2 : tie.Need-returns-then-is_plain
returns-2 c = let plain = c in sym (end_plain plain.args.s.now (omega arith) (sym plain.is_plain.ensures ∙ c.if-is_plain.true))

returns-3 : tie.Need-returns-then-is_blank1
returns-3 c =
    let blank = c in let plain = blank in let s = plain.args.s.now in
    size_one (back is_blank) (reverse s) (blank_last s (omega arith) ∙ sym blank.is_blank1.ensures ∙ c.if-is_blank1.true)

returns-4 : tie.Need-returns
returns-4 c =
    let e = c in
    let blank = e in let plain = blank in let s = plain.args.s.now in
    size_wide (back is_blank) (reverse s) (blank_last s (omega arith) ∙ sym blank.is_blank1.ensures ∙ e.if-is_blank1.false)
    (ap is_blank c.last.ensures) (ap is_blank c.last-2.ensures) c.wide_len.ensures

pub end_blank_len_spec : {M : Type 1} → statement M
end_blank_len_spec =
    tie.close (tie.spec returns (λ c. search rules) (λ c. search rules) (λ c κs. search rules)
    returns-2 (λ c κs. search rules)
    returns-3 (λ c κs. search rules) (λ c κs. search rules) (λ c κs. search rules)
    returns-4)
