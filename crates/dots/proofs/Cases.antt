-- `to300` on lengths small and large, by computation. Assumes nothing.
use mathlib.Core.Path.{◌≡◌, refl}
use mathlib.Core.List.{[], ◌∷◌, map}
use lib.IntN.{pos, negsuc}
use Rattle.dots.specs.Length.{to300}

small : map to300 (pos 0 ∷ pos 1 ∷ pos 2 ∷ pos 101 ∷ pos 203 ∷ negsuc 0 ∷ negsuc 1 ∷ negsuc 202 ∷ []) ≡ pos 0 ∷ pos 1 ∷ pos 3 ∷ pos 149 ∷ pos 300 ∷ negsuc 0 ∷ negsuc 2 ∷ negsuc 299 ∷ []
unfolding to300
small = refl

-- the last that have 32 bits, and the first that have not
large : map to300 (pos 1453130601 ∷ pos 1453130602 ∷ negsuc 1453130601 ∷ negsuc 1453130602 ∷ []) ≡ pos 2147483647 ∷ pos 2147483648 ∷ negsuc 2147483647 ∷ negsuc 2147483649 ∷ []
unfolding to300
large = refl
