-- `first` finds the unit that stands first, and nothing else: EPL fills `Reads` (`reads`). Its lines are in
-- FoundLineLaws, its blocks in FoundBlockLaws. Only a line that the end of input ends asks for something of what
-- follows (`firm`). Assumes nothing.
use mathlib.Core.Path.{◌≡◌, refl, sym, ap, ◌∙◌}
use mathlib.Core.Bool.{true, false}
use mathlib.Core.List.{List, [], ◌∷◌, ◌++◌, append_assoc, append-nil}
use Prim.Native.Nat.{ℕ}
use native.Mathlib.Omega.{arith}
use lib.ListN.{length, length-append}
use Rattle.text.specs.Blank.{trim}
use Rattle.text.proofs.BoolLaws.{test}
use Rattle.graphics.specs.declared.gw_span.Graphic.{Graphic}
use Rattle.graphics.specs.declared.gw_span.Graphic.TheVariants as graphic
use Rattle.graphics.specs.declared.gw_span.GwSpan.{GwSpan}
use Rattle.graphics.specs.Block.{opens_gw, gw_span}
use Rattle.walk_theory.specs.Language.{First, none, bad, unit}
use Rattle.walk_theory.specs.Division.{Reads, Firm}
use Rattle.walk_theory.proofs.DivisionLaws.{bad≢unit, none≢unit, bad≢none, as_unit}
use Rattle.grammar.specs.Units.{EplUnit, block, line, last, gw, bytes, Stands}
use Rattle.grammar.specs.WellFormed.{well_formed}
use Rattle.grammar.specs.Found.{text_line, said, judged, found, first}
use Rattle.grammar.specs.Epl.{epl}
use Rattle.grammar.proofs.LineFaultsLaws.{faultless, well_faultless}
use Rattle.grammar.proofs.UnitsOpensLaws.{opens_not, not_opens}
use Rattle.grammar.proofs.FoundLineLaws.{Cut, TextLine, opens_line, line_finds, last_finds, line_sound, text_line_none}
use Rattle.grammar.proofs.FoundBlockLaws.{block_finds, Spanned, span_sound, span_none, none_opens}

-- ---- a command line
pub judged_sound : (o : First EplUnit) (u : EplUnit) (rest : List ℕ) → judged o ≡ unit u rest → (o ≡ unit u rest) × (well_formed (trim (said u)) ≡ true)
judged_sound none u rest e = absurd (none≢unit e)
judged_sound (bad n) u rest e = absurd (bad≢unit e)
judged_sound (unit v r) u rest e =
    test (well_formed (trim (said v)))
    (λ f. let k = simp f at e in (k, as_unit (λ x y. well_formed (trim (said x)) ≡ true) k f))
    (λ f. absurd (bad≢unit (simp f at e)))

judged_none : (o : First EplUnit) → judged o ≡ none → o ≡ none
judged_none none e = refl
judged_none (bad n) e = e
judged_none (unit u rest) e = absurd (test (well_formed (trim (said u))) (λ f. none≢unit (sym (simp f at e))) (λ f. bad≢none (simp f at e)))

-- a well formed line is a command line, where the string doesn't open with `GW`
command_stands : (s : List ℕ) (u : EplUnit) (rest : List ℕ) → opens_gw s ≡ false → s ≡ bytes u ++ rest → TextLine u rest → well_formed (trim (said u)) ≡ true → Stands u rest
command_stands s (block bs h p) rest o e l w = absurd l
command_stands s (line t) rest o e l w =
    record { one_line = l; no_graphic = opens_not t (sym (opens_line t rest) ∙ ap opens_gw (sym (append_assoc t (10 ∷ []) rest) ∙ sym e) ∙ o); is_well_formed = well_faultless (trim t) w }
command_stands s (last t) rest o e l w =
    (record { one_line = l.0; no_graphic = opens_not t (ap opens_gw (sym (append-nil t) ∙ ap (λ (x : List ℕ). t ++ x) (sym l.2) ∙ sym e) ∙ o); is_well_formed = well_faultless (trim t) w }, l.1, l.2)

command_sound : (s : List ℕ) (u : EplUnit) (rest : List ℕ) → opens_gw s ≡ false → judged (text_line s) ≡ unit u rest → Cut s u rest × Stands u rest
command_sound s u rest o h =
    let j = judged_sound (text_line s) u rest h in
    let c = line_sound s u rest j.0 in
    (c.0, command_stands s u rest o c.0.0 c.1 j.1)

-- ---- the whole
first_finds : (u : EplUnit) (rest : List ℕ) → Stands u rest → first (bytes u ++ rest) ≡ unit u rest
unfolding first
first_finds (block bs h p) rest st = block_finds bs h p rest st
first_finds (line t) rest st =
    ap first (append_assoc t (10 ∷ []) rest)
    ∙ ap (found (t ++ 10 ∷ rest)) (span_none (t ++ 10 ∷ rest) (opens_line t rest ∙ not_opens t st.no_graphic))
    ∙ ap judged (line_finds t rest st.one_line)
    ∙ (simp (faultless (trim t) st.is_well_formed))
first_finds (last t) rest st =
    ap first (ap (λ (x : List ℕ). t ++ x) st.2 ∙ append-nil t)
    ∙ ap (found t) (span_none t (not_opens t st.0.no_graphic))
    ∙ ap judged (last_finds t st.0.one_line st.1)
    ∙ (simp (faultless (trim t) st.0.is_well_formed, st.2))

-- the block that a span stands for
pub span_first : (s : List ℕ) (g : GwSpan) (k : Spanned s g) → first s ≡ unit (block k.bs k.h k.p) k.rest
span_first s g k = ap first k.cut ∙ block_finds k.bs k.h k.p k.rest k.stands

found_sound : (s : List ℕ) (o : Graphic) (u : EplUnit) (rest : List ℕ) → gw_span s ≡ o → found s o ≡ unit u rest → Cut s u rest × Stands u rest
unfolding first
found_sound s graphic.NoGraphic u rest e h = command_sound s u rest (none_opens s e) h
found_sound s (graphic.Refused n) u rest e h = absurd (bad≢unit h)
found_sound s (graphic.Span g) u rest e h =
    let k = span_sound s g e in
    as_unit (λ v q. Cut s v q × Stands v q) (sym (span_first s g k) ∙ ap (found s) e ∙ h)
    ((k.cut, omega (arith, length-append k.bs (gw k.h k.p))), k.stands)

found_none : (s : List ℕ) (o : Graphic) → found s o ≡ none → s ≡ []
found_none s graphic.NoGraphic h = text_line_none s (judged_none (text_line s) h)
found_none s (graphic.Refused n) h = absurd (bad≢none h)
found_none s (graphic.Span g) h = absurd (none≢unit (sym h))

pub reads : Reads epl
unfolding first gw_span opens_gw
reads =
    record {
      at_end = refl;
      finds = first_finds;
      sound = λ s u rest e. let f = found_sound s (gw_span s) u rest refl e in (f.0.0, f.1, f.0.1);
      empty = λ s e. found_none s (gw_span s) e;
    }

pub firm : Firm epl
firm (block bs h p) b rest st t = st
firm (line l) b rest st t = st
firm (last l) b rest st t = absurd (let z = ap length st.2 in omega arith)
