-- `parameters::params::is_field` meets its contract: a byte alone, or by the length of the field.
-- Assumes nothing.
use mathlib.Core.Path.{◌≡◌, sym, ap, ◌∙◌}
use mathlib.Core.Bool.{true}
use mathlib.Core.List.{List, [], ◌∷◌}
use Prim.Native.Nat.{ℕ}
use native.Mathlib.Omega.{arith}
use Rattle.text.specs.Fields.{same}
use Rattle.parameters.specs.FieldValues.{exactly}
use Rattle.parameters.specs.Params.{type_at, exactly_at, alone}
use Rattle.parameters.proofs.ParamsLaws.{alone_some, alone_exactly, same_one, same_other}
use borrow.Author.Rules.{rules}
use Rattle.parameters.proofs.params.is_field.Statement.{statement}
use Rattle.parameters.proofs.params.is_field.Tie as tie

told : (c : tie.Then-is_alone) → alone c.args.s.now ≡ true
told c = sym c.is_alone.ensures ∙ c.if-is_alone.true

shared-slice-read-result : tie.Need-bounds-s-0
shared-slice-read-result c = let t = c.before in omega (arith, alone_some t.args.s.now (told t))

returns : tie.Need-returns-then-is_alone
returns c = let a = c.args in alone_exactly a.s.now a.b (told c.before)

returns-2 : tie.Need-returns-then-t-eq1
unfolding exactly_at exactly type_at
returns-2 c =
    let type = c in let t = type.type_at-t in
    let b = type.args.b in
    same_one t.result.now b c.if-t-eq1.true ∙ ap (λ (l : List ℕ). same l (b ∷ [])) t.ensures

returns-3 : tie.Need-returns-else-t-eq1
unfolding exactly_at exactly type_at
returns-3 c =
    let type = c in let t = type.type_at-t in
    let b = type.args.b in
    same_other t.result.now b c.if-t-eq1.false ∙ ap (λ (l : List ℕ). same l (b ∷ [])) t.ensures

pub is_field_spec : {M : Type 1} → statement M
is_field_spec =
    tie.close (tie.spec (λ c κs. search rules)
    shared-slice-read-result returns (λ c κs. search rules) (λ c. search rules)
    returns-2 returns-3)
