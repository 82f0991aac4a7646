-- A buffer on its way (`Toward`): with the rest stored from where it stands, it is what it shall be; begun, put,
-- finished (`begin`, `put`, `finish`). Other laws of stores are in WroteLaws.
use mathlib.Core.Path.{◌≡◌, refl, sym, ap, ◌∙◌}
use mathlib.Core.List.{List, [], ◌++◌}
use Prim.Native.Nat.{ℕ, ◌+◌, ◌≤◌}
use native.Mathlib.Omega.{arith}
use native.Mathlib.Nat.{add-zero}
use lib.ListN.{length, length-append}
use lib.Seq.{sets}
use Rattle.text.specs.Wrote.{Put}
use Rattle.text.proofs.WroteLaws.{sets_append, wrote}

pub record Toward (out : List ℕ) (at : ℕ) (rest out₀ : List ℕ) (at₀ : ℕ) (all : List ℕ) : Type 0 where
  pub is : sets out at rest ≡ sets out₀ at₀ all
  pub ends : at + length rest ≡ at₀ + length all
  pub long : length out ≡ length out₀

pub begin : (out : List ℕ) (at : ℕ) (all : List ℕ) → Toward out at all out at all
begin out at all = record { is = refl; ends = refl; long = refl }

module _ {out : List ℕ} {at : ℕ} {rest out₀ : List ℕ} {at₀ : ℕ} {all : List ℕ} (t : Toward out at rest out₀ at₀ all) where
  -- the same rest, told in another way
  pub retold : {more : List ℕ} → rest ≡ more → Toward out at more out₀ at₀ all
  retold {more} e = record { is = ap (sets out at) (sym e) ∙ t.is; ends = ap (λ (l : List ℕ). at + length l) (sym e) ∙ t.ends; long = t.long }

  -- what comes next has room
  pub room : (xs more : List ℕ) → at₀ + length all ≤ length out₀ → rest ≡ xs ++ more → at + length xs ≤ length out
  room xs more h e = omega (arith, t.ends, t.long, ap length e ∙ length-append xs more)

  -- what comes next is written
  pub put : {out' xs : List ℕ} {r : ℕ} (more : List ℕ) → rest ≡ xs ++ more → Put out' out at xs r → Toward out' r more out₀ at₀ all
  put {out'} {xs} {r} more e p =
      record {
        is = ap (λ (l : List ℕ). sets l r more) p.wrote.is ∙ ap (λ (k : ℕ). sets (sets out at xs) k more) p.next ∙ sets_append out at xs more ∙ ap (sets out at) (sym e) ∙ t.is;
        ends = omega (arith, p.next, t.ends, ap length e ∙ length-append xs more);
        long = p.wrote.long ∙ t.long;
      }

  -- nothing is left
  pub finish : rest ≡ [] → Put out out₀ at₀ all at
  finish e = record { wrote = wrote (ap (sets out at) (sym e) ∙ t.is); next = sym (add-zero at) ∙ ap (λ (l : List ℕ). at + length l) (sym e) ∙ t.ends }
