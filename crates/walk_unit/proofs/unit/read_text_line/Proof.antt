-- `walk_unit::unit::read_text_line` meets its contract. Assumes nothing.
use mathlib.Core.Path.{sym, ◌≡◌, refl, ap, ◌∙◌}
use mathlib.Core.List.{List}
use Prim.Native.Nat.{ℕ}
use native.Mathlib.Omega.{arith}
use lib.ListN.{take, length-take}
use lib.Seq.{length-take-le}
use Rattle.text.specs.Blank.{trim}
use Rattle.text.proofs.BoolLaws.{test}
use Rattle.elements.specs.declared.LabelPosition.{LabelPosition}
use Rattle.parameters.specs.declared.reading.LineReading.{LineReading}
use Rattle.parameters.specs.declared.reading.LineReading.TheVariants as reading
use Rattle.parameters.specs.Reading.{later_reading}
use Rattle.commands.specs.Line.{read_line}
use Rattle.walk_theory.specs.Reading.{fault, did, moved}
use Rattle.grammar.specs.WellFormed.{well_formed}
use Rattle.grammar.specs.Epl.{act_of, epl}
use Rattle.grammar.specs.Turn.{line_turn}
use Rattle.grammar.proofs.WellFormedLaws.{ill_formed}
use borrow.Author.Rules.{rules}
use Rattle.walk_unit.proofs.unit.read_text_line.Statement.{statement}
use Rattle.walk_unit.proofs.unit.read_text_line.Tie as tie

-- a line that is not well formed is refused by its reader with the number of its fault
line_turn_lem : (size : ℕ) (r : LabelPosition) (t : List ℕ) → did size (act_of r (read_line t r)) ≡ line_turn size r t
line_turn_lem size r t =
    test (well_formed (trim t))
    (λ e. simp e)
    (λ e. let n = ill_formed t r e in ap (λ (q : LineReading). did size (act_of r q)) n.1 ∙ ap fault n.2 ∙ (simp e))

-- what a line does where it stands at a place
did_later : (at size : ℕ) (r : LabelPosition) (x : LineReading) → did size (act_of r (later_reading at x)) ≡ moved epl at (did size (act_of r x))
did_later at size r reading.Passed = refl
did_later at size r reading.Clear = refl
did_later at size r (reading.Reference x y) = refl
did_later at size r (reading.Element e) = refl
did_later at size r (reading.Print m n) = refl
did_later at size r (reading.Refused n) = refl

line_moved : (at size : ℕ) (r : LabelPosition) (t : List ℕ) → did size (act_of r (later_reading at (read_line t r))) ≡ moved epl at (line_turn size r t)
line_moved at size r t = did_later at size r (read_line t r) ∙ ap (moved epl at) (line_turn_lem size r t)

slice-aggregate-read-line : tie.Need-slice_bounds-read_line-end
slice-aggregate-read-line c = let f = c in sym (length-take-le f.find-n.result f.args.rest.now f.find-n.ensures.fits)

read-line-requires : tie.Need-read_line-requires
read-line-requires c κs = let f = c in omega (arith, length-take f.find-n.result f.args.rest.now)

returns : tie.Need-returns
returns c =
    let z = c in
    let f = z in
    let a = f.args in
    rw (← f.find-n.ensures.is, ← z.line_size-size.ensures, ← line_moved a.at z.line_size-size.result a.reference (take f.find-n.result a.rest.now), ← c.read_line.ensures)
    c.line_unit.ensures

pub read_text_line_spec : {M : Type 1} → statement M
read_text_line_spec =
    tie.close
    (tie.spec
    (λ c κs. search rules)
    (λ c κs. search rules)
    slice-aggregate-read-line
    read-line-requires
    (λ c κs. search rules)
    returns)
