-- A command at a place: what is stored where there is room (`placed_in`), and where there is none (`placed_out`).
-- Assumes nothing.
use mathlib.Core.Path.{◌≡◌, refl, sym, ap, ◌∙◌, subst}
use mathlib.Core.Bool.{Bool, true, false}
use mathlib.Core.List.{List, []}
use Prim.Native.Nat.{ℕ, ◌+◌, ◌≤◌}
use native.Mathlib.Omega.{arith}
use lib.Dec.{leb, ltb}
use lib.ListN.{length}
use lib.Seq.{sets}
use borrow.Author.Tests.{leb-true}
use Rattle.text.proofs.BoolLaws.{test, and_both}
use Rattle.elements.specs.Given.{longest}
use Rattle.structs.specs.declared.answer.Element.{Element}
use Rattle.structs_read.specs.Unflat.{standing}
use Rattle.writing_element.specs.Place.{room_at, placed_at, text_of, Puts}
use Rattle.writing_element.specs.Plain.{plain_due}

pub room_ends : (w : Bool) (at n len : ℕ) → room_at w at n len ≡ true → at + n ≤ len
room_ends w at n len e = leb-true (at + n) len (and_both w (leb (at + n) len) e).1

module _ (w : Bool) (at : ℕ) (t l : List ℕ) {n : ℕ} (e : n ≡ length t) where
  pub placed_in : room_at w at n (length l) ≡ true → placed_at w at t l ≡ sets l at t
  placed_in h = simp (sym (ap (λ (k : ℕ). room_at w at k (length l)) e) ∙ h)

  pub placed_out : room_at w at n (length l) ≡ false → placed_at w at t l ≡ l
  placed_out h = simp (sym (ap (λ (k : ℕ). room_at w at k (length l)) e) ∙ h)

-- another way to say the text
pub puts_as : {w : Bool} {at : ℕ} {l t u m : List ℕ} {n : ℕ} → u ≡ t → Puts m l w at t n → Puts m l w at u n
puts_as {w} {at} {l} {t} {u} {m} {n} e p = subst (λ (v : List ℕ). Puts m l w at v n) (sym e) p

-- no text: nothing is stored
pub puts_none : {w : Bool} {at : ℕ} {l u : List ℕ} → u ≡ [] → Puts l l w at u 0
puts_none {w} {at} {l} {u} e =
    puts_as e (record { len = refl; small = omega arith; buffer = test (room_at w at 0 (length l)) (λ h. simp h) (λ h. simp h) })

-- a struct that no element has: no text
pub no_text : (s : List ℕ) (x : Element) → standing x ≡ false → text_of (plain_due s x) ≡ []
unfolding plain_due
no_text s x b = test (ltb longest (length s)) (λ h. simp h) (λ h. simp (h, b))
