-- EPL fills `Normalises` (`normalises`): a unit and its normal form say the same, wherever frames look only at an
-- element's own data. Assumes nothing.
use mathlib.Core.Path.{◌≡◌, refl, sym, ap, ◌∙◌}
use mathlib.Core.List.{List, [], ◌∷◌, ◌++◌, append_assoc, append-nil}
use Prim.Native.Nat.{ℕ}
use lib.ListN.{length}
use Rattle.text.specs.Blank.{trim, trim_ascii}
use Rattle.text.proofs.BlankTrimLaws.{trim_trim_ascii}
use Rattle.elements.specs.declared.LabelElement.{LabelElement}
use Rattle.elements.specs.declared.LabelPosition.{LabelPosition}
use Rattle.elements.specs.Spans.{In, shifted}
use Rattle.parameters.specs.declared.reading.LineReading.{LineReading}
use Rattle.parameters.specs.declared.reading.LineReading.TheVariants as reading
use Rattle.parameters.specs.Reading.{later_reading}
use Rattle.command_letters.specs.Command.{is_reference, is_print, command_of}
use Rattle.commands.specs.Line.{lead_of, read_line}
use Rattle.graphics.specs.Block.{opens_gw}
use Rattle.walk_theory.specs.Labels.{Run, goes, and_then, effect, run}
use Rattle.walk_theory.specs.Normal.{Solid, none_left, and_solid, Normalises}
use Rattle.walk_theory.proofs.RunLaws.{follow, before_nil}
use Rattle.grammar.specs.Units.{EplUnit, block, line, last, bytes, all_nil, Command, Stands}
use Rattle.grammar.specs.WellFormed.{well_formed}
use Rattle.grammar.specs.Epl.{EplPrint, act_of, epl}
use Rattle.grammar.specs.Normal.{kept, normal, blocks, normalised}
use Rattle.grammar.proofs.LineFaultsLaws.{well_faultless}
use Rattle.grammar.proofs.UnitsOpensLaws.{opens_not}
use Rattle.grammar.proofs.EplLaws.{line_in}
use Rattle.grammar.proofs.UnitsTrimmedLaws.{command_trimmed}
use Rattle.commands.proofs.LineLaterLaws.{line_later, within}
use Rattle.grammar.proofs.NormalLaws.{normalised_unit, normalised_nil, normal_settled, normal_blocks, normal_grows}

-- ---- a normal form stands before anything
empty_command : Command []
unfolding opens_gw well_formed command_of is_reference is_print
empty_command = record { one_line = all_nil; no_graphic = opens_not [] refl; is_well_formed = well_faultless [] refl }

kept_solid : (t : List ℕ) → Command t → Solid epl (kept t)
kept_solid [] c = none_left
kept_solid (b ∷ t) c = and_solid (λ rest. c) none_left

normal_solid : (u : EplUnit) (rest : List ℕ) → Stands u rest → Solid epl (normal u)
normal_solid (block bs h p) rest st = and_solid (λ rest'. st) (and_solid (λ rest'. empty_command) none_left)
normal_solid (line t) rest st = kept_solid (trim_ascii t) (command_trimmed t st)
normal_solid (last t) rest st = kept_solid (trim_ascii t) (command_trimmed t st.0)

-- ---- a unit and its normal form say the same
empty_says : (t : List ℕ) (r : LabelPosition) → trim t ≡ [] → read_line t r ≡ reading.Passed
unfolding read_line command_of is_reference is_print
empty_says t r e = rw e

-- frames that look only at an element's own data
module _ (F : Type 0) (frame : List ℕ → LabelElement → F)
    (local : (pre x post : List ℕ) (e : LabelElement) → In (length x) e → frame (pre ++ (x ++ post)) (shifted (length pre) e) ≡ frame x e) where
  abbrev does : EplUnit → List ℕ → LabelPosition → List F → Run LabelPosition F EplPrint
  does u t r p = effect epl F frame r p u (act_of r (read_line t r))

  line_frame : (t end : List ℕ) (e : LabelElement) → In (length (trim t)) e → frame (t ++ end) (shifted (lead_of t) e) ≡ frame (trim t) e
  line_frame t end e i =
      let w = within t in
      let whole : t ++ end ≡ w.before ++ (trim t ++ (w.behind ++ end)) = ap (λ (x : List ℕ). x ++ end) w.whole ∙ (simp append_assoc) in
      ap (λ (x : List ℕ). frame x (shifted (lead_of t) e)) whole
      ∙ ap (λ (n : ℕ). frame (w.before ++ (trim t ++ (w.behind ++ end))) (shifted n e)) (sym w.place)
      ∙ local w.before (trim t) (w.behind ++ end) e i

  -- a line does what it does alone and without its blanks
  line_does : (u : EplUnit) (t end : List ℕ) (r : LabelPosition) (p : List F) → bytes u ≡ t ++ end → does u t r p ≡ does (last (trim t)) (trim t) r p
  line_does u t end r p b = ap (λ (x : LineReading). effect epl F frame r p u (act_of r x)) (line_later t r) ∙ by (read_line (trim t) r) refl
    where
      by : (x : LineReading) → read_line (trim t) r ≡ x → effect epl F frame r p u (act_of r (later_reading (lead_of t) x)) ≡ effect epl F frame r p (last (trim t)) (act_of r x)
      by (reading.Element e) h =
          ap (λ (f : F). goes [] r (p ++ (f ∷ []))) (ap (λ (x : List ℕ). frame x (shifted (lead_of t) e)) b ∙ line_frame t end e (line_in (trim t) r e h))
      by reading.Passed h = refl
      by reading.Clear h = refl
      by (reading.Reference x y) h = refl
      by (reading.Print m n) h = refl
      by (reading.Refused n) h = refl

  module _ (us : List EplUnit) where
    abbrev go_on : LabelPosition → List F → Run LabelPosition F EplPrint
    go_on r p = run epl F frame r p us

    -- a line of blanks changes nothing
    empty_run : (u : EplUnit) (t : List ℕ) (r : LabelPosition) (p : List F) → trim t ≡ [] → and_then (does u t r p) go_on ≡ go_on r p
    empty_run u t r p e = ap (λ (x : LineReading). and_then (effect epl F frame r p u (act_of r x)) go_on) (empty_says t r e) ∙ before_nil (go_on r p)

    -- a line kept without its ASCII blanks, or dropped
    kept_run : (u : EplUnit) (t x end : List ℕ) (r : LabelPosition) (p : List F) → bytes u ≡ t ++ end → trim x ≡ trim t
        → run epl F frame r p (kept x ++ us) ≡ and_then (does u t r p) go_on
    kept_run u t [] end r p b e = sym (empty_run u t r p (sym e))
    kept_run u t (c ∷ x) end r p b e =
        ap (λ (d : Run LabelPosition F EplPrint). and_then d go_on)
        (line_does (line (c ∷ x)) (c ∷ x) (10 ∷ []) r p refl ∙ ap (λ (y : List ℕ). does (last y) y r p) e ∙ sym (line_does u t end r p b))

    normal_run : (u : EplUnit) (r : LabelPosition) (p : List F) → run epl F frame r p (normal u ++ us) ≡ run epl F frame r p (u ∷ us)
    normal_run (block bs h q) r p = follow epl F frame (block bs h q) (line [] ∷ us) us r p (λ r' p'. empty_run (line []) [] r' p' refl)
    normal_run (line t) r p = kept_run (line t) t (trim_ascii t) (10 ∷ []) r p refl (trim_trim_ascii t)
    normal_run (last t) r p = kept_run (last t) t (trim_ascii t) [] r p (sym (append-nil t)) (trim_trim_ascii t)

  pub normalises : Normalises epl F frame normalised blocks normal
  normalises = record {
    at_end = normalised_nil;
    at_unit = normalised_unit;
    solid = normal_solid;
    same_run = λ u us r p. normal_run us u r p;
    same_blocks = normal_blocks;
    settled = normal_settled;
    grows = normal_grows;
  }
