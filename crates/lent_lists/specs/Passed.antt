-- A list that is passed from the front, with what is carried along.
use Rattle.std.specs.Prelude.{◌≡◌, List, [], ◌∷◌}

-- z is what y is after each element has had its turn: Turn x y w says that y is w after x
abbrev pub Passes : {X Y : Type 0} → (X → Y → Y → Type 0) → List X → Y → Y → Type 0
Passes Turn [] y z = z ≡ y
Passes {X} {Y} Turn (x ∷ xs) y z = (w : Y) × (Turn x y w × Passes Turn xs w z)
