-- `profile::unit::quoted_objection` meets its contract: no data, or the objection to the parameters. The first quote's
-- place gives both. Assumes nothing.
use Rattle.std.proofs.Common.{◌≡◌, sym, ap, ◌∙◌, List, ℕ, ◌+◌, ◌-◌, length, take, drop, arith}
use borrow.Author.Tests.{eq-eqb, ne_eqb}
use Rattle.text.specs.Fields.{index_of, before, before_last, quoted, without_trailing_commas}
use Rattle.text.proofs.FieldsLaws.{after_here}
use Rattle.commands.specs.Line.{params_of}
use Rattle.commands.proofs.LineLaws.{quoted_none}
use Rattle.profile.specs.Profile.{quoted_objection}
use Rattle.profile.proofs.unit.quoted_objection.Goals as goal

-- the data d that was cut out of t, whose first quote was found at q
cut : (t d : List ℕ) (q : ℕ) → d ≡ before_last 34 (take (length t - (q + 1)) (drop (q + 1) t)) → q ≡ index_of 34 t → d ≡ quoted t
cut t d q e f = e ∙ ap (before_last 34) (after_here 34 t q f)

-- and the parameters p
params : (t h p : List ℕ) (q : ℕ) → h ≡ drop 1 (take q t) → p ≡ without_trailing_commas h → q ≡ index_of 34 t → p ≡ params_of t
unfolding params_of before
params t h p q e w f = w ∙ ap without_trailing_commas e ∙ ap (λ (n : ℕ). without_trailing_commas (drop 1 (take n t))) f

pub returns-then-t-q-lt2 : goal.returns-then-t-q-lt2
unfolding quoted_objection
returns-then-t-q-lt2 c =
    let t = c.args.t.now in
    simp (eq-eqb (length (quoted t)) 0 (quoted_none t (omega (arith, c.find-q.ensures.is))))

pub returns-then-data-eq0 : goal.returns-then-data-eq0
unfolding quoted_objection
returns-then-data-eq0 c =
    let t = c.args.t.now in
    let e = cut t c.before_last-data.result.now c.find-q.result c.before_last-data.ensures c.find-q.ensures.is in
    simp (eq-eqb (length (quoted t)) 0 (sym (ap length e) ∙ c.if-data-eq0.true))

pub returns : goal.returns
unfolding quoted_objection
returns c =
    let t = c.args.t.now in
    let q = c.find-q.result in
    let e = cut t c.before_last-data.result.now q c.before_last-data.ensures c.find-q.ensures.is in
    let p = params t c.tail.result.now c.without_trailing_commas.result.now q c.tail.ensures c.without_trailing_commas.ensures c.find-q.ensures.is in
    simp (ne_eqb (length (quoted t)) 0 (λ h. c.if-data-eq0.false (ap length e ∙ h))) (simp p at c.data_objection.ensures)
