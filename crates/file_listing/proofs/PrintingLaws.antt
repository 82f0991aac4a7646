-- What the programs print, by what a call that filled their buffer gave back (`prints_refusal`, `prints_nothing`,
-- `prints_long`, `prints_due`). What a program prints of standard input is in PrintingProgramLaws. Assumes nothing.
use mathlib.Core.Path.{◌≡◌, refl, subst, ◌∙◌}
use mathlib.Core.List.{List, []}
use Prim.Native.Nat.{ℕ, ◌<◌, ◌≤◌}
use native.Mathlib.Omega.{arith}
use lib.ListN.{length}
use borrow.Author.Tests.{lt-ltb, le-ltb}
use Rattle.text.specs.Wrote.{Put}
use Rattle.text.proofs.WroteLaws.{wrote}
use Rattle.elements.specs.Given.{Given, refused, Due, text, denied, fitting, needed, stored, Fills}
use Rattle.elements.proofs.GivenLaws.{within_long, within_short}
use Rattle.file_listing.specs.Printing.{refusal_line, refusal_by, shown_by, printed, Prints}

-- m is what the call made of l by what fitted, and n what is printed from
shown : (n m l : List ℕ) (r : ℕ) (x : Due) → m ≡ stored x l → Prints n m (needed x) r → Put n l 0 (shown_by (length l) x) r
shown n m l r (text t) b w = record { wrote = wrote (w.wrote.is ∙ b); next = omega (arith, w.next) }
shown n m l r (denied k p) b w = let v = rw b at w in record { wrote = v.wrote; next = omega (arith, v.next) }

-- a refusal where there is room for it, and where there is none
pub prints_refusal : {n l : List ℕ} {k p r : ℕ} → 13 ≤ length l → Put n l 0 (refusal_line k p) r → Prints n l (refused k p) r
unfolding refusal_by
prints_refusal {n} {l} {k} {p} h w =
    let e : refusal_by (length l) k p ≡ refusal_line k p = simp (le-ltb (length l) 13 h) in
    record { wrote = rw e w.wrote; next = rw e (omega (arith, w.next)) }

pub prints_nothing : (l : List ℕ) (k p : ℕ) → length l < 13 → Prints l l (refused k p) 0
unfolding refusal_by
prints_nothing l k p h =
    let e : refusal_by (length l) k p ≡ [] = simp (lt-ltb (length l) 13 h) in
    record { wrote = rw e (wrote refl); next = rw e refl }

-- the input s, and what is due for it
module _ (s l : List ℕ) (d : Due) {n : List ℕ} {r : ℕ} where
  pub prints_long : 65536 < length s → Prints n l (refused 14 0) r → Put n l 0 (printed s d (length l)) r
  prints_long k w = rw (within_long 65536 s d k) (shown n l l r (denied 14 0) refl w)

  pub prints_due : {m : List ℕ} {g : Given} → length s ≤ 65536 → Fills m l d g → Prints n m g r → Put n l 0 (printed s d (length l)) r
  prints_due {m} {g} k f w = rw (within_short 65536 s d k) (shown n m l r (fitting d (length l)) f.buffer (subst (λ (x : Given). Prints n m x r) f.answer w))
