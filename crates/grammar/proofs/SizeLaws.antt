-- `unit_size` is the size of the unit that stands first (`size_unit`), and what stands first has a byte at least and
-- lies within the string (`size_bad`, `size_fits`). Assumes nothing.
use mathlib.Core.Path.{◌≡◌, refl, sym, ap, ◌∙◌}
use mathlib.Core.List.{List, [], ◌∷◌, ◌++◌}
use Prim.Native.Nat.{ℕ, suc, ◌<◌, ◌≤◌}
use native.Mathlib.Numerals.{add-one}
use native.Mathlib.Omega.{arith}
use lib.Dec.{ltb}
use lib.ListN.{length, length-append}
use lib.Seq.{length-take-le}
use borrow.Author.Tests.{ltb-true, ltb-false}
use Rattle.text.specs.Blank.{drop_while, front}
use Rattle.text.specs.Fields.{index_of}
use Rattle.text.specs.Scan.{size_by}
use Rattle.text.proofs.BoolLaws.{test}
use Rattle.text.proofs.FieldsLaws.{index_le}
use Rattle.text.proofs.ScanLaws.{size_with, size_without}
use Rattle.graphics.specs.declared.gw_span.Graphic.{Graphic}
use Rattle.graphics.specs.declared.gw_span.Graphic.TheVariants as graphic
use Rattle.graphics.specs.declared.gw_span.GwSpan.{GwSpan}
use Rattle.graphics.specs.Block.{gw_span}
use Rattle.graphics.proofs.BlockLaws.{span_fits}
use Rattle.walk_theory.specs.Language.{bad, unit}
use Rattle.walk_theory.proofs.DivisionLaws.{bad≢unit, bad≢none, as_unit, none≢unit}
use Rattle.grammar.specs.Units.{EplUnit, line, bytes, not_lf}
use Rattle.grammar.specs.Found.{line_by, text_line, found, first}
use Rattle.grammar.proofs.FrontLaws.{front_drop}
use Rattle.grammar.proofs.TurnLineLaws.{front_index}
use Rattle.grammar.proofs.FoundLaws.{judged_sound, span_first, reads}
use Rattle.grammar.proofs.FoundBlockLaws.{span_sound}
use Rattle.grammar.specs.Size.{size_on, unit_size}

-- a line lies within its string
pub size_le : (n m : ℕ) → n ≤ m → size_by n m ≤ m
size_le n m h =
    test (ltb n m)
    (λ e. let l = ltb-true n m e in rw (← size_with n m l) (omega arith))
    (λ e. let l = ltb-false n m e in rw (← size_without n m l) h)

-- a line, by the place of its LF
line_size_lem : (s : List ℕ) (u : EplUnit) (rest : List ℕ) → text_line s ≡ unit u rest → size_by (index_of 10 s) (length s) ≡ length (bytes u)
line_size_lem s u rest h = by (front not_lf s) (drop_while not_lf s) (front_drop not_lf s) n h
  where
    n : length (front not_lf s) ≡ index_of 10 s
    n = ap length (front_index s) ∙ length-take-le (index_of 10 s) s (index_le 10 s)

    by : (t r : List ℕ) → t ++ r ≡ s → length t ≡ index_of 10 s → line_by t r ≡ unit u rest → size_by (index_of 10 s) (length s) ≡ length (bytes u)
    by [] [] e i h = absurd (none≢unit h)
    by (b ∷ t) [] e i h =
        as_unit (λ v q. size_by (index_of 10 s) (length s) ≡ length (bytes v)) h
        (sym (size_without (index_of 10 s) (length s) (omega (arith, i, ap length e, length-append (b ∷ t) []))) ∙ sym i)
    by t (b ∷ r) e i h =
        as_unit (λ v q. size_by (index_of 10 s) (length s) ≡ length (bytes v)) h
        (sym (size_with (index_of 10 s) (length s) (omega (arith, i, ap length e, length-append t (b ∷ r)))) ∙ ap suc (sym i) ∙ sym (add-one (length t)) ∙ sym (length-append t (10 ∷ [])))

pub size_unit : (s : List ℕ) (u : EplUnit) (rest : List ℕ) → first s ≡ unit u rest → unit_size s ≡ length (bytes u)
unfolding unit_size first
size_unit s u rest h = by (gw_span s) refl h
  where
    by : (o : Graphic) → gw_span s ≡ o → found s o ≡ unit u rest → size_on s o ≡ length (bytes u)
    by graphic.NoGraphic e h = line_size_lem s u rest (judged_sound (text_line s) u rest h).0
    by (graphic.Refused n) e h = absurd (bad≢unit h)
    by (graphic.Span g) e h =
        let k = span_sound s g e in
        as_unit (λ v q. g.data_end ≡ length (bytes v)) (sym (span_first s g k) ∙ ap (found s) e ∙ h) (ap (λ (x : GwSpan). x.data_end) k.is)

some_size : (s : List ℕ) → 0 < length s → 0 < size_by (index_of 10 s) (length s)
some_size s h =
    test (ltb (index_of 10 s) (length s))
    (λ e. let z = size_with (index_of 10 s) (length s) (ltb-true (index_of 10 s) (length s) e) in omega arith)
    (λ e. let l = ltb-false (index_of 10 s) (length s) e in let z = size_without (index_of 10 s) (length s) l in omega arith)

some_bad : (s : List ℕ) (n : ℕ) → first s ≡ bad n → 0 < length s
some_bad [] n e = absurd (bad≢none (sym e ∙ reads.at_end))
some_bad (b ∷ s) n e = omega arith

pub size_bad : (s : List ℕ) (n : ℕ) → first s ≡ bad n → 0 < unit_size s
unfolding unit_size first
size_bad s n h = by (gw_span s) refl h
  where
    by : (o : Graphic) → gw_span s ≡ o → found s o ≡ bad n → 0 < size_on s o
    by graphic.NoGraphic e q = some_size s (some_bad s n h)
    by (graphic.Refused m) e q = some_size s (some_bad s n h)
    by (graphic.Span g) e q = absurd (bad≢unit (sym q))

-- the unit that stands first lies within the input, and takes a byte at least
pub record Fits (s : List ℕ) (n : ℕ) : Type 0 where
  pub inside : n ≤ length s
  pub some : 0 < n

pub size_fits : (s : List ℕ) → 0 < length s → Fits s (unit_size s)
unfolding unit_size
size_fits s h = by (gw_span s) refl
  where
    line : Fits s (size_by (index_of 10 s) (length s))
    line = record { inside = size_le (index_of 10 s) (length s) (index_le 10 s); some = some_size s h }

    by : (o : Graphic) → gw_span s ≡ o → Fits s (size_on s o)
    by graphic.NoGraphic e = line
    by (graphic.Refused n) e = line
    by (graphic.Span g) e = let f = span_fits s g e in record { inside = f.end_le; some = f.end_pos }
