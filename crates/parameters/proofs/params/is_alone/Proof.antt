-- `parameters::params::is_alone` meets its contract, by the length of s.
-- Assumes nothing.
use mathlib.Core.Path.{◌≡◌, refl, ap, ◌∙◌}
use mathlib.Core.Bool.{Bool, false, ◌&&◌}
use mathlib.Core.List.{List, [], ◌∷◌}
use Prim.Native.Nat.{ℕ}
use native.Mathlib.Omega.{arith}
use lib.Dec.{eqb}
use lib.ListN.{length, get_or}
use Rattle.parameters.specs.Params.{alone}
use Rattle.parameters.proofs.ParamsLaws.{alone_one, alone_more}
use borrow.Author.Rules.{rules}
use Rattle.parameters.proofs.params.is_alone.Statement.{statement}
use Rattle.parameters.proofs.params.is_alone.Tie as tie

none : (s : List ℕ) → length s ≡ 0 → false ≡ alone s
none [] h = refl
none (a ∷ s) h = absurd (omega arith)

returns : tie.Need-returns-then-s-eq0
returns c = none c.args.s.now c.if-s-eq0.true

returns-2 : tie.Need-returns-then-s-eq1
returns-2 c = let one = c in c.is_mark.ensures ∙ alone_one one.args.s.now one.if-s-eq1.true

returns-3 : tie.Need-returns
returns-3 c =
    let mark = c in let more = mark in let s = more.args.s.now in
    ap (λ (x : Bool). x && eqb (get_or s 1 0) 44) mark.is_mark-2.ensures ∙ alone_more s (omega arith)

pub is_alone_spec : {M : Type 1} → statement M
is_alone_spec =
    tie.close (tie.spec returns (λ c. search rules) (λ c κs. search rules)
    returns-2 (λ c. search rules) (λ c κs. search rules) (λ c. search rules)
    returns-3)
