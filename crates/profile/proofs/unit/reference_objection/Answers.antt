-- `profile::unit::reference_objection` meets its contract: x, then y where there is a comma.
-- Assumes nothing.
use Rattle.std.proofs.Common.{◌≡◌, sym, ap, ◌∙◌, List, ℕ, length}
use borrow.Author.Tests.{eq-eqb, ne_eqb}
use Rattle.text.specs.Fields.{index_of, before}
use Rattle.profile.specs.declared.rule.Objection.{Objection}
use Rattle.profile.specs.Profile.{ruled, reference_objection}
use Rattle.profile.proofs.unit.reference_objection.Goals as goal

-- what is said of x, the first field
first : (s f : List ℕ) (r o : Objection) → r ≡ ruled 1 120 f → f ≡ before 44 s → r ≡ o → ruled 1 120 (before 44 s) ≡ o
first s f r o h e k = sym (h ∙ ap (ruled 1 120) e) ∙ k

pub returns-then-find-s : goal.returns-then-find-s
unfolding reference_objection
returns-then-find-s c =
    let s = c.args.s.now in
    simp (first s _ _ _ c.ruled.ensures c.first_field.ensures c.in-Fine.is, eq-eqb (index_of 44 s) (length s) (sym c.find.ensures.is ∙ c.if-find-s.true))

pub returns-else-find-s : goal.returns-else-find-s
unfolding reference_objection
returns-else-find-s c =
    let s = c.args.s.now in
    simp (first s _ _ _ c.ruled.ensures c.first_field.ensures c.in-Fine.is, ne_eqb (index_of 44 s) (length s) (λ h. c.if-find-s.false (c.find.ensures.is ∙ h)))
    (simp c.after_field.ensures at c.ruled-in-Fine.ensures)

pub returns-in-To : goal.returns-in-To
unfolding reference_objection
returns-in-To c = simp (first c.args.s.now _ _ _ c.ruled.ensures c.first_field.ensures c.in-To.is)
