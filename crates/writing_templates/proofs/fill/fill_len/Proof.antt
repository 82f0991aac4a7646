-- `writing_templates::fill::fill_len` meets its contract. Invariant: `Summed`. Measure: what is left of t.
-- Assumes nothing.
use Prim.Native.Nat.{◌-◌}
use native.Mathlib.Omega.{arith}
use lib.ListN.{length}
use Rattle.writing_templates.proofs.FillLaws.{Summed, summed_begin, summed_next, summed_end}
use borrow.Author.Rules.{rules}
use Rattle.writing_templates.proofs.fill.fill_len.Statement.{statement}
use Rattle.writing_templates.proofs.fill.fill_len.Tie as tie

abbrev invariant-loop : tie.invariant-loop-i
invariant-loop t e len total₀ i₀ total i = Summed e len t total i

abbrev decreases-loop : tie.decreases-loop-i
decreases-loop t e len total₀ i₀ total i = length t - i

add_total : tie.Need-overflow_add-total invariant-loop decreases-loop
add_total c =
    let l = c in
    let a = l in
    record { fits = omega (arith, l.loop-i.invariant.small, l.loop-i.invariant.within, c.slot_len-total.ensures.small, a.requires.0, a.requires.1) }

loop-again : tie.Need-loop-i-preserved invariant-loop decreases-loop
loop-again c =
    let l = c in
    summed_next c.loop-i-test.true l.requires.1 l.loop-i.invariant c.slot_len-total.ensures

returns : tie.Need-returns invariant-loop decreases-loop
returns c = summed_end c.loop-i-test.false c.requires.0 c.loop-i.invariant

pub fill_len_spec : {M : Type 1} → statement M
fill_len_spec =
    tie.close
    (tie.spec
    invariant-loop
    decreases-loop
    (λ c. summed_begin)
    (λ c. search rules)
    (λ c κs. search rules)
    add_total
    (λ c. search rules)
    (λ c. search rules)
    loop-again
    returns)
