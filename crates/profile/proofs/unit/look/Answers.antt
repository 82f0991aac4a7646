-- `profile::unit::look` meets its contract: a line, a block at fault, or a block. Assumes nothing.
use Rattle.std.proofs.Common.{◌≡◌, sym, ap, ◌∙◌, List, ℕ}
use Rattle.graphics.specs.declared.gw_span.Graphic.{Graphic}
use Rattle.graphics.specs.Block.{gw_span}
use Rattle.grammar.specs.Size.{unit_size}
use Rattle.profile.specs.declared.rule.Objection.{Objection}
use Rattle.profile.specs.Profile.{objection, looked_as}
use Rattle.profile.proofs.unit.look.Goals as goal

-- what stands first
is : (s : List ℕ) (r o : Graphic) → r ≡ gw_span s → r ≡ o → gw_span s ≡ o
is s r o h e = sym h ∙ e

pub returns-in-NoGraphic : goal.returns-in-NoGraphic
unfolding objection unit_size
returns-in-NoGraphic c =
    let o = simp c.find-n.ensures.is at c.line_objection.ensures in
    let n = simp c.find-n.ensures.is at c.line_size.ensures in
    simp (is c.args.rest.now _ _ c.gw_span.ensures c.in-NoGraphic.is) (c.sized.ensures ∙ (λ i. looked_as (o i) (n i)))

pub returns-in-Refused : goal.returns-in-Refused
unfolding objection unit_size
returns-in-Refused c =
    simp (is c.args.rest.now _ _ c.gw_span.ensures c.in-Refused.is) (simp (c.find.ensures.is, c.line_size-in-Refused.ensures))

pub returns-in-Span : goal.returns-in-Span
unfolding objection unit_size
returns-in-Span c =
    let o = simp (c.tail_two.ensures, c.trim_line_start.ensures) at c.by_rules.ensures in
    simp (is c.args.rest.now _ _ c.gw_span.ensures c.in-Span.is) (c.sized-in-Span.ensures ∙ ap (λ (q : Objection). looked_as q c.in-Span.g.data_end) o)
