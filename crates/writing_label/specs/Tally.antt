-- Inner: a pass over elements, of which each has a text or none. Each is measured, or stored behind the one before.
use Rattle.std.specs.Prelude.{◌≡◌, Bool, true, false, cond, List, [], ◌∷◌, ◌++◌, ℕ, zero, suc, ◌+◌, ◌-◌, ◌≤◌, eqb, leb, length}
use Rattle.structs.specs.declared.answer.Element.{Element}
use Rattle.dots.specs.declared.element.Element300.{Element300}
use Rattle.writing_element.specs.Place.{placed_at, text_of}
use Rattle.writing_element.specs.Plain.{plain_due}
use Rattle.writing_label.specs.declared.tally.Tally.{Tally}
use Rattle.writing_label.specs.Label.{at300}

-- a + n, or a where it has not 64 bits
abbrev pub onto : ℕ → ℕ → ℕ
onto a n = cond (leb n (18446744073709551615 - a)) (a + n) a

abbrev pub stopped_of : Tally → Tally
stopped_of c = record { number = c.number; at = c.at; refused = true; writing = c.writing }

-- k elements are behind, and the next one begins at a
abbrev pub tally : ℕ → ℕ → Bool → Tally
tally k a w = record { number = k; at = a; refused = false; writing = w }

-- behind a text of n bytes; 0 is none
abbrev pub after_of : Tally → ℕ → Tally
after_of c n = cond (eqb n 0) (stopped_of c) (tally (onto c.number 1) (onto c.at n) c.writing)

-- one element with the text t
abbrev pub turned : List ℕ → Tally × List ℕ → Tally × List ℕ
turned t p = cond p.0.refused p (after_of p.0 (length t), placed_at p.0.writing p.0.at t p.1)

-- p is q after an element with the text t; where its text was looked at, it is no long one
pub record Turns (t : List ℕ) (p q : Tally × List ℕ) : Type 0 where
  pub is : q ≡ turned t p
  pub small : p.0.refused ≡ false → length t ≤ 1073742528

abbrev pub TurnOf : List ℕ → Element → Tally × List ℕ → Tally × List ℕ → Type 0
TurnOf s x = Turns (text_of (plain_due s x))

abbrev pub TurnOf300 : List ℕ → Element300 → Tally × List ℕ → Tally × List ℕ → Type 0
TurnOf300 s x = TurnOf s (at300 x)

-- how many of the first elements have a text
abbrev pub first_none : {X : Type 0} → (X → List ℕ) → List X → ℕ
first_none txt [] = zero
first_none txt (x ∷ xs) = cond (eqb (length (txt x)) 0) zero (suc (first_none txt xs))

-- all texts
abbrev pub texts : {X : Type 0} → (X → List ℕ) → List X → List ℕ
texts txt [] = []
texts txt (x ∷ xs) = txt x ++ texts txt xs
