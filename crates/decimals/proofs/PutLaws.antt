-- Digits stored one after the other. Assumes nothing.
use mathlib.Core.Path.{◌≡◌, refl, sym, ap, ◌∙◌}
use mathlib.Core.List.{List, [], ◌∷◌}
use Prim.Native.Nat.{ℕ, ◌+◌, ◌/◌, ◌%◌, ◌<◌, ◌≤◌}
use native.Mathlib.Omega.{arith}
use native.Mathlib.Numerals.{add-one}
use lib.ListN.{length, set}
use lib.Seq.{sets}
use Rattle.text.specs.Wrote.{Put}
use Rattle.text.proofs.WroteLaws.{wrote, wrote_as, wrote_left}
use Rattle.decimals.specs.Decimal.{digits}
use Rattle.decimals.proofs.DecimalLaws.{digits_one, digits_more, length_one, length_more}

module _ (n : ℕ) (l : List ℕ) (at : ℕ) where
  pub put_one : n < 10 → Put (set l at (48 + n)) l at (digits n) (at + 1)
  put_one h = record { wrote = wrote_as (digits_one n h) (wrote refl); next = ap (λ (k : ℕ). at + k) (sym (length_one n h)) }

  pub put_more : {m : List ℕ} {a : ℕ} → 10 ≤ n → Put m l at (digits (n / 10)) a → Put (set m a (48 + n % 10)) l at (digits n) (a + 1)
  put_more {m} {a} h p =
      record {
        wrote = wrote_as (digits_more n h) (wrote (ap (λ (k : ℕ). set m k (48 + n % 10)) p.next ∙ wrote_left (digits (n / 10)) ((48 + n % 10) ∷ []) p.wrote));
        next = omega (arith, length_more n h, p.next);
      }

-- one store and then a run
pub put_cons : {n l : List ℕ} {at r : ℕ} (x : ℕ) (bs : List ℕ) → Put n (set l at x) (at + 1) bs r → Put n l at (x ∷ bs) r
put_cons {n} {l} {at} {r} x bs p = record { wrote = wrote (p.wrote.is ∙ ap (λ (k : ℕ). sets (set l at x) k bs) (add-one at)); next = omega (arith, p.next) }

-- the same bytes, told in another way
pub put_as : {n l : List ℕ} {at r : ℕ} {xs ys : List ℕ} → ys ≡ xs → Put n l at xs r → Put n l at ys r
put_as {n} {l} {at} {r} e p = record { wrote = wrote_as e p.wrote; next = p.next ∙ ap (λ (bs : List ℕ). at + length bs) (sym e) }
