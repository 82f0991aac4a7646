-- `profile::rule::by_rules` meets its contract.
-- Assumes nothing.
use Rattle.std.proofs.Common.{sym, ap, ◌∙◌, ◌+◌, drop, length-drop, arith}
use Rattle.text.proofs.DropSteps.{rest}
use Rattle.profile.specs.Profile.{rules_from}
use Rattle.profile.proofs.RuleLaws.{after_size, rules_fine, rules_to}
use Rattle.profile.proofs.rule.by_rules.Goals as goal

pub loop-k-preserved : goal.loop-k-preserved
loop-k-preserved c =
    let l = c.loop-k in
    let rs = c.args.rules.now in
    let t = l.t.now in
    let m = c.line_size-m.result in
    let comma = c.find-n.ensures.is in
    let e = rest t m in
    record {
      within = omega arith;
      shorter = rw (e, length-drop) (omega (arith, l.invariant.shorter));
      same =
          l.invariant.same
          ∙ rules_fine rs t l.k _ c.loop-k-test.true comma (sym c.in-Fine.is ∙ c.ruled.ensures)
          ∙ ap (rules_from (l.k + 1) (drop (l.k + 1) rs)) (sym (e ∙ after_size t _ m comma c.line_size-m.ensures));
    }

pub returns-in-To : goal.returns-in-To
returns-in-To c =
    let l = c.loop-k in
    sym (
    l.invariant.same
    ∙ rules_to c.args.rules.now l.t.now l.k _ c.loop-k-test.true c.find-n.ensures.is c.in-To.j c.in-To.h (sym c.in-To.is ∙ c.ruled.ensures)
    )
