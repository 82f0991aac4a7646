-- `crate::blank::trim_start` meets its contract. Invariant: t trimmed is s trimmed. Measure: t's length.
-- Assumes nothing.
use mathlib.Core.Path.{◌≡◌, refl, sym, ◌∙◌}
use Prim.Native.Nat.{◌≤◌}
use native.Mathlib.Omega.{arith}
use lib.ListN.{length}
use borrow.Author.Rules.{rules}
use Rattle.text.specs.Blank.{is_blank, trim_start}
use Rattle.text.proofs.BlankSteps.{size_le, strip_stop, start_step, start_less}
use Rattle.numbers.proofs.blank.trim_start.Statement.{statement}
use Rattle.numbers.proofs.blank.trim_start.Tie as tie

abbrev invariant-loop : tie.invariant-loop-t
invariant-loop s t₀ t = (length t ≤ length s) × (trim_start s ≡ trim_start t)

abbrev decreases-loop : tie.decreases-loop-t
decreases-loop s t₀ t = length t

-- the blank is part of t
fits : (d : tie.After-blank_len-k invariant-loop decreases-loop) → d.blank_len-k.result ≤ length d.loop-t.t.now
fits d = omega (arith, d.blank_len-k.ensures, size_le is_blank refl d.loop-t.t.now)

returns : tie.Need-returns-then-k-eq0 invariant-loop decreases-loop
returns c =
    let d = c in let l = d.loop-t in
    sym (l.invariant.1 ∙ strip_stop is_blank refl l.t.now d.blank_len-k.result d.blank_len-k.ensures (omega (arith, c.if-k-eq0.true)))

loop-less : tie.Need-loop-t-smaller invariant-loop decreases-loop
loop-less c =
    let d = c.before.before in
    start_less d.loop-t.t.now d.blank_len-k.result (fits d) (omega (arith, c.if-k-eq0.false))

loop-again : tie.Need-loop-t-preserved invariant-loop decreases-loop
loop-again c =
    let d = c.before.before in let l = d.loop-t in
    let some = c.if-k-eq0.false in
    (omega (arith, l.invariant.0, start_less l.t.now d.blank_len-k.result (fits d) (omega (arith, some))), l.invariant.1 ∙ start_step l.t.now d.blank_len-k.result d.blank_len-k.ensures (omega (arith, some)))

pub trim_start_spec : {M : Type 1} → statement M
trim_start_spec =
    tie.close (tie.spec invariant-loop decreases-loop (λ c. search rules) (λ c κs. search rules)
    returns (λ c. omega (arith, fits c.before)) (λ c. omega (arith, fits c.before)) (λ c. search rules)
    loop-less loop-again)
