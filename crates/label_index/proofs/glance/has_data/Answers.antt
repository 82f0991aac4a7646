-- `label_index::glance::has_data`: the first quote's place gives the data.
use Rattle.std.proofs.Common.{ap, ◌∙◌, length, arith, not, nat_eq, eq-eqb}
use Rattle.text.specs.Fields.{before_last, quoted}
use Rattle.text.proofs.FieldsLaws.{after_here}
use Rattle.commands.proofs.LineLaws.{quoted_none}
use Rattle.label_index.proofs.glance.has_data.Goals as goal

pub returns-then-t-q-lt2 : goal.returns-then-t-q-lt2
returns-then-t-q-lt2 c =
    let t = c.args.t.now in
    simp (eq-eqb (length (quoted t)) 0 (quoted_none t (omega (arith, c.find-q.ensures.is))))

pub returns : goal.returns
returns c =
    let t = c.args.t.now in
    let cut = c.before_last-data.ensures ∙ ap (before_last 34) (after_here 34 t c.find-q.result c.find-q.ensures.is) in
    ap (λ d. not (nat_eq (length d) 0)) cut
