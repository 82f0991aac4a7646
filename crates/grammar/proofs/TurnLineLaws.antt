-- What a reader of one unit answers where no graphic stands first: what the line up to its LF does (`line_reads`,
-- `line_none`; the line is `front_index`). Blocks are in TurnBlockLaws. Assumes nothing.
use mathlib.Core.Path.{◌≡◌, refl, ap, ◌∙◌}
use mathlib.Core.Bool.{cond}
use mathlib.Core.List.{List, [], ◌∷◌, ◌++◌}
use Prim.Native.Nat.{ℕ, suc, ◌<◌}
use native.Mathlib.Numerals.{add-one}
use native.Mathlib.Omega.{arith}
use lib.Dec.{eqb}
use lib.ListN.{length, length-append, take}
use lib.Seq.{length-take-le}
use Rattle.text.specs.Blank.{drop_while, front, trim}
use Rattle.text.specs.Fields.{index_of}
use Rattle.text.specs.Scan.{size_by}
use Rattle.text.proofs.BoolLaws.{test}
use Rattle.text.proofs.FieldsLaws.{index_le}
use Rattle.text.proofs.ScanLaws.{size_with, size_without}
use Rattle.elements.specs.declared.LabelPosition.{LabelPosition}
use Rattle.graphics.specs.declared.gw_span.Graphic.{Graphic}
use Rattle.graphics.specs.declared.gw_span.Graphic.TheVariants as graphic
use Rattle.graphics.specs.Block.{gw_span}
use Rattle.walk_theory.specs.Language.{unit}
use Rattle.walk_theory.specs.Reading.{nothing, fault, did, reading, reading_of}
use Rattle.grammar.specs.Units.{EplUnit, line, last, bytes, not_lf}
use Rattle.grammar.specs.WellFormed.{well_formed, fault_of}
use Rattle.grammar.specs.Found.{line_by, said, judged, found, first}
use Rattle.grammar.specs.Epl.{acts, epl}
use Rattle.grammar.specs.Turn.{line_turn}
use Rattle.grammar.proofs.FrontLaws.{front_drop}
use Rattle.grammar.proofs.FoundLaws.{reads}

-- the line that stands first, by the place of its LF
pub front_index : (s : List ℕ) → front not_lf s ≡ take (index_of 10 s) s
front_index [] = refl
front_index (b ∷ s) = test (eqb b 10) (λ e. simp e) (λ e. simp (e, front_index s))

-- a line judged and then read is read where it is well formed
judged_reads : (r : LabelPosition) (u : EplUnit) (rest : List ℕ) → reading epl r (judged (unit u rest)) ≡ cond (well_formed (trim (said u))) (did (length (bytes u)) (acts r u)) (fault (fault_of (trim (said u))))
judged_reads r u rest = test (well_formed (trim (said u))) (λ e. simp e) (λ e. simp e)

-- a line t, and what follows it with its LF
line_by_lem : (r : LabelPosition) (t q : List ℕ) → 0 < length (t ++ q) → reading epl r (judged (line_by t q)) ≡ line_turn (size_by (length t) (length (t ++ q))) r t
line_by_lem r [] [] h = absurd (omega arith)
line_by_lem r (b ∷ t) [] h =
    judged_reads r (last (b ∷ t)) []
    ∙ ap (λ (n : ℕ). line_turn n r (b ∷ t)) (size_without (suc (length t)) (suc (length (t ++ []))) (omega (arith, length-append t [])))
line_by_lem r t (b ∷ q) h =
    judged_reads r (line t) q
    ∙ ap (λ (n : ℕ). line_turn n r t) (length-append t (10 ∷ []) ∙ add-one (length t) ∙ size_with (length t) (length (t ++ b ∷ q)) (omega (arith, length-append t (b ∷ q))))

pub line_none : (r : LabelPosition) → reading_of epl [] r ≡ nothing
line_none r = ap (reading epl r) reads.at_end

pub line_reads : (s : List ℕ) (r : LabelPosition) → gw_span s ≡ graphic.NoGraphic → 0 < length s → reading_of epl s r ≡ line_turn (size_by (index_of 10 s) (length s)) r (take (index_of 10 s) s)
unfolding first
line_reads s r e h =
    let whole = front_drop not_lf s in
    let n : length (front not_lf s) ≡ index_of 10 s = ap length (front_index s) ∙ length-take-le (index_of 10 s) s (index_le 10 s) in
    ap (λ (o : Graphic). reading epl r (found s o)) e
    ∙ line_by_lem r (front not_lf s) (drop_while not_lf s) (omega (arith, ap length whole))
    ∙ (λ i. line_turn (size_by (n i) (length (whole i))) r (front_index s i))
