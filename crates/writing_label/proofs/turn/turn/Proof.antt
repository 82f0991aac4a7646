-- `writing_label::turn::turn` meets its contract. Assumes nothing.
use mathlib.Core.Path.{sym, ap, ◌∙◌}
use mathlib.Core.Bool.{true≢false}
use native.Mathlib.Omega.{arith}
use Rattle.writing_label.specs.Tally.{after_of}
use borrow.Author.Rules.{rules}
use Rattle.writing_label.proofs.turn.turn.Statement.{statement}
use Rattle.writing_label.proofs.turn.turn.Tie as tie

returns : tie.Need-returns-then-c
returns c = record { is = simp c.if-c.true; small = λ h. absurd (true≢false (sym c.if-c.true ∙ h)) }

returns-2 : tie.Need-returns
returns-2 c =
    let put = c in
    let on = put in
    let k = put.put_plain-n.ensures in
    record {
      is = simp on.if-c.false (λ i. ((c.after.ensures ∙ ap (after_of on.args.c) k.len) i, k.buffer i));
      small = λ _. omega (arith, k.len, k.small);
    }

pub turn_spec : {M : Type 1} → statement M
turn_spec =
    tie.close
    (tie.spec
    returns
    (λ c κs. search rules)
    (λ c κs. search rules)
    (λ c. search rules)
    returns-2)
