-- What the normaliser takes first stands there (`chunk_sound`), and normalised text is unrolled by one chunk without
-- its fuel (`normalised_is`). Units are in NormalLaws. Assumes nothing.
use mathlib.Core.Path.{◌≡◌, refl, ap, ◌∙◌}
use mathlib.Core.List.{List, ◌++◌}
use Prim.Native.Nat.{ℕ, zero, suc, ◌<◌}
use native.Mathlib.Omega.{arith}
use lib.ListN.{length, length-append}
use Rattle.graphics.specs.declared.gw_span.Graphic.{Graphic}
use Rattle.graphics.specs.declared.gw_span.Graphic.TheVariants as graphic
use Rattle.graphics.specs.Block.{gw_span}
use Rattle.walk_theory.specs.Language.{First, none, bad, unit}
use Rattle.walk_theory.specs.Normal.{each}
use Rattle.grammar.specs.Units.{EplUnit, bytes}
use Rattle.grammar.specs.Found.{found, first}
use Rattle.grammar.specs.Normal.{normal, chunk_by, chunk, written, normalised_by, normalised}
use Rattle.grammar.proofs.FoundLineLaws.{Cut, line_sound}
use Rattle.grammar.proofs.FoundLaws.{reads}

-- a chunk stands first, and has a byte at least
pub chunk_sound : (s : List ℕ) (u : EplUnit) (rest : List ℕ) → chunk s ≡ unit u rest → Cut s u rest
unfolding chunk first
chunk_sound s u rest h = by (gw_span s) refl h
  where
    by : (o : Graphic) → gw_span s ≡ o → chunk_by s o ≡ unit u rest → Cut s u rest
    by graphic.NoGraphic e h = (line_sound s u rest h).0
    by (graphic.Refused n) e h = (line_sound s u rest h).0
    by (graphic.Span g) e h = let f = reads.sound s u rest (ap (found s) e ∙ h) in (f.0, f.2)

-- what is written of a string asks only for what is written of shorter ones
written_same : (s : List ℕ) (f g : List ℕ → List ℕ) → ((t : List ℕ) → length t < length s → f t ≡ g t) → written (chunk s) f ≡ written (chunk s) g
written_same s f g same = by (chunk s) refl
  where
    by : (o : First EplUnit) → chunk s ≡ o → written o f ≡ written o g
    by none e = refl
    by (bad n) e = refl
    by (unit u rest) e =
        let c = chunk_sound s u rest e in
        ap (λ (x : List ℕ). each bytes (normal u) ++ x) (same rest (omega (arith, ap length c.0, length-append (bytes u) rest)))

-- with enough fuel it does not matter how much
enough : (k m : ℕ) (s : List ℕ) → length s < k → length s < m → normalised_by k s ≡ normalised_by m s
enough zero m s h i = absurd (omega arith)
enough (suc k) zero s h i = absurd (omega arith)
enough (suc k) (suc m) s h i = written_same s (normalised_by k) (normalised_by m) (λ t l. enough k m t (omega arith) (omega arith))

-- normalised text is what its first chunk becomes and the rest's, for every string
pub normalised_is : (s : List ℕ) → normalised s ≡ written (chunk s) normalised
unfolding normalised
normalised_is s = written_same s (normalised_by (length s)) normalised (λ t l. enough (length s) (suc (length t)) t l (omega arith))
