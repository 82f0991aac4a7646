-- What a writer of digits leaves in a lent buffer.
use Rattle.std.specs.Prelude.{◌≡◌, List, ℕ, ◌+◌, ◌*◌, length}
use Rattle.text.specs.Wrote.{Wrote}
use Rattle.frame_bytes.specs.Hex.{hexes}

-- n is l with the digits of the k bytes bs stored from at on, and r is the place after them
pub record PutHex (n l : List ℕ) (at : ℕ) (bs : List ℕ) (k r : ℕ) : Type 0 where
  pub wrote : Wrote n l at (hexes bs)
  pub many : length bs ≡ k
  pub next : r ≡ at + 2 * k
