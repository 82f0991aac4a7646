-- Fields by their rules, one turn of the loop: the rule at place i, and the field that t begins with.
-- Assumes nothing.
use mathlib.Core.Path.{◌≡◌, sym, ap, ◌∙◌}
use mathlib.Core.List.{List}
use Prim.Native.Nat.{ℕ, suc, ◌+◌, ◌<◌, ◌≤◌}
use native.Mathlib.Numerals.{add-one}
use native.Mathlib.Omega.{arith}
use lib.Dec.{ltb}
use lib.ListN.{length, get_or, take, drop, drop_of_length-le}
use lib.Seq.{drop-cons}
use borrow.Author.Tests.{ltb-true, ltb-false}
use Rattle.text.specs.Fields.{index_of, before, after}
use Rattle.text.specs.Scan.{size_by}
use Rattle.text.proofs.BoolLaws.{test}
use Rattle.text.proofs.ScanLaws.{size_with, size_without}
use Rattle.profile.specs.declared.rule.Objection.TheVariants.{Fine, To}
use Rattle.profile.specs.declared.rule.Held.{Held}
use Rattle.profile.specs.Profile.{ruled, rules_from}

-- what follows the first comma, by its place
pub after_size : (t : List ℕ) (n m : ℕ) → n ≡ index_of 44 t → m ≡ size_by n (length t) → drop m t ≡ after 44 t
unfolding after
after_size t n m e q =
    test (ltb n (length t))
    (λ h. let k : m ≡ suc (index_of 44 t) = q ∙ sym (size_with n (length t) (ltb-true n (length t) h)) ∙ ap suc e in rw k)
    (λ h. let l = ltb-false n (length t) h in let k : m ≡ n = q ∙ sym (size_without n (length t) l) in rw (drop_of_length-le t {i = m} (omega arith), drop_of_length-le t {i = suc (index_of 44 t)} (omega arith)))

module _ (rules t : List ℕ) (i n : ℕ) (h : i < length rules) (e : n ≡ index_of 44 t) where
  pub rules_fine : Fine ≡ ruled (i + 1) (get_or rules i 0) (take n t) → rules_from i (drop i rules) t ≡ rules_from (i + 1) (drop (i + 1) rules) (after 44 t)
  unfolding before
  rules_fine f = rw (drop-cons rules i 0) (rw (← e, ← f, add-one))

  pub rules_to : (k : ℕ) (o : Held) → To k o ≡ ruled (i + 1) (get_or rules i 0) (take n t) → rules_from i (drop i rules) t ≡ To k o
  unfolding before
  rules_to k o f = rw (drop-cons rules i 0) (rw (← e, ← f))

pub rules_end : (rules t : List ℕ) (i : ℕ) → length rules ≤ i → rules_from i (drop i rules) t ≡ Fine
rules_end rules t i h = rw (drop_of_length-le rules)
