-- The print line, byte by byte. Assumes nothing.
use mathlib.Core.Path.{◌≡◌, refl, ap, ◌∙◌}
use mathlib.Core.List.{List, [], ◌∷◌, ◌++◌}
use Prim.Native.Nat.{ℕ, ◌+◌, ◌≤◌}
use native.Mathlib.Omega.{arith}
use lib.IntN.{ℤ}
use lib.ListN.{length, set, length-append, length-set}
use lib.Seq.{sets}
use Rattle.text.specs.Wrote.{Put}
use Rattle.text.proofs.WroteLaws.{wrote, wrote_left}
use Rattle.decimals.specs.Decimal.{decimal}
use Rattle.decimals.proofs.PutLaws.{put_cons}
use Rattle.writing_label.specs.Plan.{print_text}

-- a run behind a run
put_then : {l m n : List ℕ} {at a r : ℕ} (xs ys : List ℕ) → Put m l at xs a → Put n m a ys r → Put n l at (xs ++ ys) r
put_then {l} {m} {n} {at} {a} {r} xs ys p q =
    record { wrote = wrote (q.wrote.is ∙ ap (λ (k : ℕ). sets m k ys) p.next ∙ wrote_left xs ys p.wrote); next = omega (arith, p.next, q.next, length-append xs ys) }

pub print_long : (n₁ n₂ : ℤ) → length (print_text n₁ n₂) ≡ length (decimal n₁) + length (decimal n₂) + 3
print_long n₁ n₂ =
    let c : List ℕ = decimal n₁ ++ 44 ∷ decimal n₂ in
    let a : length c ≡ length (decimal n₁) + (length (decimal n₂) + 1) = length-append (decimal n₁) (44 ∷ decimal n₂) ∙ omega arith in
    let b : length (c ++ 10 ∷ []) ≡ length c + 1 = length-append c (10 ∷ []) in
    omega (arith, a, b)

-- the line, from its numbers
pub print_put : {l m n : List ℕ} {at a b : ℕ} (n₁ n₂ : ℤ) → Put m (set l at 80) (at + 1) (decimal n₁) a → Put n (set m a 44) (a + 1) (decimal n₂) b
    → Put (set n b 10) l at (print_text n₁ n₂) (b + 1)
print_put {l} {m} {n} {at} {a} {b} n₁ n₂ p q =
    let c : List ℕ = decimal n₁ ++ 44 ∷ decimal n₂ in
    put_cons 80 (c ++ 10 ∷ [])
    (put_then c (10 ∷ []) (put_then (decimal n₁) (44 ∷ decimal n₂) p (put_cons 44 (decimal n₂) q)) (record { wrote = wrote refl; next = refl }))

-- where its numbers end, and that the buffer keeps its length
pub first_ends : (l m : List ℕ) (at a : ℕ) {z : ℤ} (n₁ n₂ : ℤ) → z ≡ n₁ → at + length (print_text n₁ n₂) ≤ length l → Put m (set l at 80) (at + 1) (decimal z) a
    → (a + length (decimal n₂) + 2 ≤ length m) × (length m ≡ length l)
first_ends l m at a {z} n₁ n₂ e h p =
    let k : length (decimal z) ≡ length (decimal n₁) = ap (λ (y : ℤ). length (decimal y)) e in
    let w : length m ≡ length l = p.wrote.long ∙ length-set l at 80 in
    (omega (arith, k, w, p.next, print_long n₁ n₂), w)

pub second_ends : (m n : List ℕ) (a b : ℕ) {z : ℤ} (n₂ : ℤ) → z ≡ n₂ → a + length (decimal n₂) + 2 ≤ length m → Put n (set m a 44) (a + 1) (decimal z) b
    → (b + 1 ≤ length n) × (length n ≡ length m)
second_ends m n a b {z} n₂ e h p =
    let k : length (decimal z) ≡ length (decimal n₂) = ap (λ (y : ℤ). length (decimal y)) e in
    let w : length n ≡ length m = p.wrote.long ∙ length-set m a 44 in
    (omega (arith, k, w, p.next), w)
