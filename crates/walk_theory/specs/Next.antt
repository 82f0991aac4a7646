-- The label index one entry at a time, as a loop over a lent list fills it: from behind a print line, the next label's
-- entry and the reference behind its own.
use Rattle.std.specs.Prelude.{List, [], ◌∷◌, ℕ, zero, suc, ◌+◌, length, drop}
use Rattle.walk_theory.specs.Language.{Act, keep, clear, yield, print, outside, Language}
use Rattle.walk_theory.specs.Division.{Division, units_of}
use Rattle.walk_theory.specs.Index.{Entry, Hand, hand, hand_at}

-- the entry made last, and the reference behind its print line
pub record Cursor (R : Type 0) : Type 0 where
  pub entry : Entry R
  pub ref : R

-- at a print line that ends at the place `next`, n being pending
abbrev pub next_print : {R : Type 0} → Cursor R → Hand R → ℕ → ℕ → Cursor R
next_print else h next zero = else
next_print else h next (suc n) =
    record { entry = record { from = h.from; upto = next; count = suc n; start = h.start }; ref = h.ref }

-- at a unit that ends at the place `next`, by what it does; c where no label follows
abbrev pub next_by : {R E P : Type 0} → (Hand R → Cursor R) → Cursor R → Hand R → ℕ → Act R E P → Cursor R
next_by go c h next (keep r) = go (hand h.from h.start r h.pending)
next_by go c h next (clear r) = go (hand h.from h.start r 0)
next_by go c h next (yield e) = go (hand h.from h.start h.ref (suc h.pending))
next_by go c h next (print q) = next_print (go (hand_at next h.ref)) h next h.pending
next_by go c h next (outside k) = c

module _ (L : Language) where
  open L use {U, R, E, P, bytes, act}

  abbrev pub next_of : Cursor R → ℕ → Hand R → List U → Cursor R
  next_of c at h [] = c
  next_of c at h (u ∷ us) =
      next_by (λ h'. next_of c (at + length (bytes u)) h' us) c h (at + length (bytes u)) (act h.ref u)

  -- no unit is out of range, r being the reference before the first
  abbrev pub RangeBy : (R → Type 0) → R → Act R E P → Type 0
  RangeBy go r (keep r') = go r'
  RangeBy go r (clear r') = go r'
  RangeBy go r (yield e) = go r
  RangeBy go r (print q) = go r
  RangeBy go r (outside k) = ⊥

  abbrev pub RangeOf : R → List U → Type 0
  RangeOf r [] = Unit
  RangeOf r (u ∷ us) = RangeBy (λ r'. RangeOf r' us) r (act r u)

  -- what stands here is read to the end with no refusal, r being the reference
  pub record Unrefused (rest : List ℕ) (r : R) : Type 0 where
    pub divides : Division L rest (units_of L rest)
    pub range : RangeOf r (units_of L rest)

  -- the next label's entry from a place of s on, h being the label at hand
  abbrev pub next_from : List ℕ → Cursor R → ℕ → Hand R → Cursor R
  next_from s c at h = next_of c at h (units_of L (drop at s))

  -- the next entry behind the one that a cursor holds
  abbrev pub next : List ℕ → Cursor R → Cursor R
  next s c = next_from s c c.entry.upto (hand_at c.entry.upto c.ref)
