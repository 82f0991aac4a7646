-- Normalised text, unit by unit (`normalised_unit`): a normal form is settled, has its unit's blocks and grows little
-- (`normal_settled`, `normal_blocks`, `normal_grows`, `length_normalised_le`). Chunks are in NormalChunkLaws. Assumes
-- nothing.
use mathlib.Core.Path.{◌≡◌, refl, sym, ap, subst, ◌∙◌}
use mathlib.Core.List.{List, [], ◌∷◌, ◌++◌, append-nil}
use Prim.Native.Nat.{ℕ, zero, suc, ◌+◌, ◌/◌, ◌<◌, ◌≤◌}
use native.Mathlib.Omega.{arith}
use lib.ListN.{length, length-append}
use Rattle.text.specs.Blank.{trim_ascii}
use Rattle.text.proofs.BlankTrimLaws.{trim_ascii_trim_ascii}
use Rattle.graphics.specs.declared.gw_span.Graphic.{Graphic}
use Rattle.graphics.specs.declared.gw_span.Graphic.TheVariants as graphic
use Rattle.graphics.specs.Block.{opens_gw, gw_span}
use Rattle.walk_theory.specs.Language.{First, none, bad, unit}
use Rattle.walk_theory.specs.Normal.{each, Grows, no_longer, by_block, by_last}
use Rattle.walk_theory.proofs.DivisionLaws.{bad≢unit}
use Rattle.text.specs.Ascii.{spelt}
use Rattle.grammar.specs.Units.{Header, EplUnit, block, line, last, bytes, Stands}
use Rattle.grammar.specs.Found.{text_line, found, first}
use Rattle.grammar.specs.Normal.{kept, normal, blocks, chunk_by, chunk, written, normalised}
use Rattle.grammar.proofs.FoundLineLaws.{TextLine, line_sound}
use Rattle.grammar.proofs.FoundLaws.{judged_sound, reads}
use Rattle.grammar.proofs.NormalChunkLaws.{chunk_sound, normalised_is}
use Rattle.grammar.proofs.UnitsTrimmedLaws.{length_trimmed_le}

-- ---- what is written
-- a unit that stands first is taken first
chunk_first : (s : List ℕ) (u : EplUnit) (rest : List ℕ) → first s ≡ unit u rest → chunk s ≡ unit u rest
unfolding first chunk
chunk_first s u rest h = by (gw_span s) h
  where
    by : (o : Graphic) → found s o ≡ unit u rest → chunk_by s o ≡ unit u rest
    by graphic.NoGraphic h = (judged_sound (text_line s) u rest h).0
    by (graphic.Refused n) h = absurd (bad≢unit h)
    by (graphic.Span g) h = h

pub normalised_unit : (u : EplUnit) (rest : List ℕ) → Stands u rest → normalised (bytes u ++ rest) ≡ each bytes (normal u) ++ normalised rest
normalised_unit u rest st =
    let s = bytes u ++ rest in
    normalised_is s ∙ ap (λ (o : First EplUnit). written o normalised) (chunk_first s u rest (reads.finds u rest st))

pub normalised_nil : normalised [] ≡ []
unfolding normalised chunk gw_span opens_gw
normalised_nil = refl

-- ---- what has its normal form keeps it
kept_settled : (t : List ℕ) → trim_ascii t ≡ t → each normal (kept t) ≡ kept t
kept_settled [] e = refl
kept_settled (b ∷ t) e = append-nil (kept (trim_ascii (b ∷ t))) ∙ ap kept e

pub normal_settled : (u : EplUnit) → each normal (normal u) ≡ normal u
normal_settled (block bs h p) = refl
normal_settled (line t) = kept_settled (trim_ascii t) (trim_ascii_trim_ascii t)
normal_settled (last t) = kept_settled (trim_ascii t) (trim_ascii_trim_ascii t)

-- ---- blocks
kept_blocks : (t : List ℕ) → each blocks (kept t) ≡ []
kept_blocks [] = refl
kept_blocks (b ∷ t) = refl

pub normal_blocks : (u : EplUnit) → each blocks (normal u) ≡ blocks u
normal_blocks (block bs h p) = refl
normal_blocks (line t) = kept_blocks (trim_ascii t)
normal_blocks (last t) = kept_blocks (trim_ascii t)

-- ---- lengths
length_kept_le : (t : List ℕ) → length (each bytes (kept t)) ≤ length t + 1
length_kept_le [] = omega arith
length_kept_le (b ∷ t) = simp length-append (omega arith)

-- one byte more at most, whatever the unit says
pub normal_le : (u : EplUnit) → length (each bytes (normal u)) ≤ length (bytes u) + 1
normal_le (block bs h p) = omega (arith, length-append (bytes (block bs h p)) (10 ∷ []))
normal_le (line t) = omega (arith, length_kept_le (trim_ascii t), length_trimmed_le t, length-append t (10 ∷ []))
normal_le (last t) = omega (arith, length_kept_le (trim_ascii t), length_trimmed_le t)

line_grows : (t rest : List ℕ) → Grows (length (bytes (line t))) (length (each bytes (normal (line t)))) rest
line_grows t rest = no_longer (omega (arith, length_kept_le (trim_ascii t), length_trimmed_le t, length-append t (10 ∷ [])))

pub normal_grows : (u : EplUnit) (rest : List ℕ) → Stands u rest → Grows (length (bytes u)) (length (each bytes (normal u))) rest
normal_grows (block bs h p) rest st = by_block (normal_le (block bs h p)) (simp length-append (omega arith))
normal_grows (line t) rest st = line_grows t rest
normal_grows (last t) rest st = by_last (normal_le (last t)) st.2

-- a line that is taken as text, whatever it says, grows as one that is well formed
text_grows : (u : EplUnit) (rest : List ℕ) → TextLine u rest → Grows (length (bytes u)) (length (each bytes (normal u))) rest
text_grows (block bs h p) rest st = absurd st
text_grows (line t) rest st = line_grows t rest
text_grows (last t) rest st = by_last (normal_le (last t)) st.2

chunk_grows : (s : List ℕ) (u : EplUnit) (rest : List ℕ) → chunk s ≡ unit u rest → Grows (length (bytes u)) (length (each bytes (normal u))) rest
unfolding chunk first
chunk_grows s u rest h = by (gw_span s) refl h
  where
    by : (o : Graphic) → gw_span s ≡ o → chunk_by s o ≡ unit u rest → Grows (length (bytes u)) (length (each bytes (normal u))) rest
    by graphic.NoGraphic e h = text_grows u rest (line_sound s u rest h).1
    by (graphic.Refused n) e h = text_grows u rest (line_sound s u rest h).1
    by (graphic.Span g) e h = normal_grows u rest (reads.sound s u rest (ap (found s) e ∙ h)).1

-- ---- the text of any string, refused ones too, of n bytes: n + n / 6 + 1 at most
length_by : (k : ℕ) (s : List ℕ) → length s < k → length (normalised s) ≤ length s + length s / 6 + 1
length_by zero s h = absurd (omega arith)
length_by (suc k) s h = subst (λ (t : List ℕ). length t ≤ length s + length s / 6 + 1) (sym (normalised_is s)) (by (λ t. length_by k t) (chunk s) refl)
  where
    by : ((t : List ℕ) → length t < k → length (normalised t) ≤ length t + length t / 6 + 1) → (o : First EplUnit) → chunk s ≡ o → length (written o normalised) ≤ length s + length s / 6 + 1
    by again none e = omega arith
    by again (bad n) e = omega arith
    by again (unit u rest) e =
        let c = chunk_sound s u rest e in
        go (ap length c.0 ∙ length-append (bytes u) rest) (length-append (each bytes (normal u)) (normalised rest)) (again rest (omega (arith, c.1, ap length c.0, length-append (bytes u) rest))) (chunk_grows s u rest e)
      where
        go : length s ≡ length (bytes u) + length rest → length (each bytes (normal u) ++ normalised rest) ≡ length (each bytes (normal u)) + length (normalised rest) → length (normalised rest) ≤ length rest + length rest / 6 + 1 → Grows (length (bytes u)) (length (each bytes (normal u))) rest → length (each bytes (normal u) ++ normalised rest) ≤ length s + length s / 6 + 1
        go m n i (no_longer h) = omega (arith, n, m)
        go m n i (by_block h six) = omega (arith, n, m)
        go m n i (by_last h end) = omega (arith, n, m, ap length (ap normalised end ∙ normalised_nil))

pub length_normalised_le : (s : List ℕ) → length (normalised s) ≤ length s + length s / 6 + 1
length_normalised_le s = length_by (suc (length s)) s (omega arith)

-- ---- a graphic block is its bytes: blanks, `GW`, four fields and payload; a line has none
pub block_bytes : (bs p : List ℕ) (h : Header) → blocks (block bs h p) ≡ (bs ++ spelt "GW" (h.x ++ spelt "," (h.y ++ spelt "," (h.width ++ spelt "," (h.lines ++ spelt "," p))))) ∷ []
block_bytes bs p h = refl

pub line_blocks : (t : List ℕ) → (blocks (line t) ≡ []) × (blocks (last t) ≡ [])
line_blocks t = (refl, refl)
