-- A list that is filled from the front, by a walk that makes one element a step.
use Rattle.std.specs.Prelude.{ℕ, zero, suc, List, [], ◌∷◌}

-- the first n elements that a walk from c makes: the walk takes a step, and `of` is the element of where it stands then
abbrev pub made : {C E : Type 0} → (C → C) → (C → E) → ℕ → C → List E
made step of zero c = []
made step of (suc n) c = of (step c) ∷ made step of n (step c)
