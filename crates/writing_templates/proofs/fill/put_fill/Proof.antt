-- `writing_templates::fill::put_fill` meets its contract. Invariant: `Filling`. Measure: what is left of t.
-- Assumes nothing.
use Prim.Native.Nat.{◌-◌}
use lib.ListN.{length}
use Rattle.writing_templates.proofs.FillLaws.{Filling, filling_begin, filling_room, filling_next, filling_end}
use borrow.Author.Rules.{rules}
use Rattle.writing_templates.proofs.fill.put_fill.Statement.{statement}
use Rattle.writing_templates.proofs.fill.put_fill.Tie as tie

abbrev invariant-loop : tie.invariant-loop-i
invariant-loop out₀ at t e bytes a₀ i₀ out a i = Filling e bytes t out₀ at out a i

abbrev decreases-loop : tie.decreases-loop-i
decreases-loop out₀ at t e bytes a₀ i₀ out a i = length t - i

put-slot-requires : tie.Need-put_slot-a-requires invariant-loop decreases-loop
put-slot-requires c κs =
    let l = c in
    filling_room c.loop-i-test.true l.requires l.loop-i.invariant

loop-again : tie.Need-loop-i-preserved invariant-loop decreases-loop
loop-again c =
    let put = c in
    let turn = put in
    filling_next turn.loop-i-test.true turn.loop-i.invariant put.put_slot-a.ensures

same_length : tie.Need-shape_of-out invariant-loop decreases-loop
same_length c = c.loop-i.invariant.toward.long

returns : tie.Need-returns invariant-loop decreases-loop
returns c = filling_end c.loop-i-test.false c.loop-i.invariant

pub put_fill_spec : {M : Type 1} → statement M
put_fill_spec =
    tie.close
    (tie.spec
    invariant-loop
    decreases-loop
    (λ c. filling_begin)
    (λ c. search rules)
    put-slot-requires
    (λ c. search rules)
    (λ c. search rules)
    loop-again
    same_length
    returns)
