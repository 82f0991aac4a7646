-- `crate::number::digits` meets its contract. Invariant: v is the value of the digits before i, or 2^31 + 1 above 2^31.
-- Measure: s's length less i.
-- Assumes nothing.
use mathlib.Core.Path.{◌≡◌, sym, ap, ◌∙◌}
use mathlib.Core.Bool.{true}
use Prim.Native.Nat.{ℕ, ◌+◌, ◌-◌, ◌≤◌}
use native.Mathlib.Omega.{arith}
use lib.ListN.{length, drop, get_or}
use borrow.Author.Rules.{rules}
use borrow.Author.Tests.{not-true, not-false}
use Rattle.text.specs.Class.{is_digit}
use Rattle.text.proofs.BoolLaws.{within_low, within_high}
use Rattle.numbers.specs.Number.{value_from, digits_of, capped}
use Rattle.numbers.proofs.NumberLaws.{digits_some, digits_none, value_other, value_step, capped_least, capped_upto, capped_over}
use Rattle.numbers.proofs.number.digits.Statement.{statement}
use Rattle.numbers.proofs.number.digits.Tie as tie

abbrev invariant-loop : tie.invariant-loop-i
invariant-loop s v₀ i₀ v i = (i ≤ length s) × (v ≤ 2147483649) × (capped (digits_of s) ≡ capped (value_from v (drop i s)))

abbrev decreases-loop : tie.decreases-loop-i
decreases-loop s v₀ i₀ v i = length s - i

abbrev byte : tie.Else-not-is_digit invariant-loop decreases-loop → ℕ
byte d = let l = d in get_or l.args.s.now l.loop-i.i 0

digit : (d : tie.Else-not-is_digit invariant-loop decreases-loop) → is_digit (byte d) ≡ true
digit d = sym d.is_digit.ensures ∙ not-false _ d.if-not-is_digit.false-raw

returns : tie.Need-returns-then-s-eq0 invariant-loop decreases-loop
returns c = sym (ap capped (digits_none c.args.s.now c.if-s-eq0.true))

loop-holds : tie.Need-loop-i-init invariant-loop decreases-loop
loop-holds c = (search rules, search rules, ap capped (digits_some c.args.s.now (omega arith)))

returns-2 : tie.Need-returns-then-not-is_digit invariant-loop decreases-loop
returns-2 c =
    let l = c in
    sym (l.loop-i.invariant.2 ∙ ap capped (value_other l.args.s.now l.loop-i.i l.loop-i.v (search rules) (sym c.is_digit.ensures ∙ not-true _ c.if-not-is_digit.true-raw)))

sub-w : tie.Need-overflow_sub-w invariant-loop decreases-loop
sub-w c = omega (arith, within_low 48 57 (byte c) (digit c))

cast-w : tie.Need-overflow_cast-w invariant-loop decreases-loop
cast-w c = omega (arith, within_high 48 57 (byte c) (digit c))

add-w : tie.Need-overflow_add-w invariant-loop decreases-loop
add-w c = omega (arith, within_high 48 57 (byte c) (digit c))

loop-again : tie.Need-loop-i-preserved invariant-loop decreases-loop
loop-again c =
    let one = c.before in let l = one in
    let s = l.args.s.now in
    let m = c.least-v.ensures in (
      search rules,
      omega (arith, m),
      l.loop-i.invariant.2 ∙ ap capped (value_step s l.loop-i.i l.loop-i.v (search rules) (digit one)) ∙ capped_least (drop (l.loop-i.i + 1) s) _ c.least-v.result m,
    )

returns-3 : tie.Need-returns-then-v-gt2147483648 invariant-loop decreases-loop
returns-3 c =
    let l = c in
    sym (l.loop-i.invariant.2 ∙ capped_over l.args.s.now l.loop-i.i l.loop-i.v c.loop-i-test.false c.if-v-gt2147483648.true)

returns-4 : tie.Need-returns invariant-loop decreases-loop
returns-4 c =
    let l = c in
    sym (l.loop-i.invariant.2 ∙ capped_upto l.args.s.now l.loop-i.i l.loop-i.v c.loop-i-test.false c.if-v-gt2147483648.false)

pub digits_spec : {M : Type 1} → statement M
digits_spec =
    tie.close (tie.spec invariant-loop decreases-loop returns loop-holds (λ c. search rules) (λ c κs. search rules)
    returns-2 (λ c. search rules)
    sub-w cast-w add-w (λ c κs. search rules) (λ c. search rules) (λ c. search rules)
    loop-again returns-3 returns-4)
