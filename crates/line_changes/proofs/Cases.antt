-- What is asked of two files holds of some: a line that LF ends, between others, and one that the end of input ends.
-- Assumes nothing.
use mathlib.Core.Path.{◌≡◌, refl}
use mathlib.Core.List.{[], ◌∷◌}
use Prim.Native.Nat.{ℕ}
use native.Mathlib.Omega.{arith}
use Rattle.text.specs.Ascii.{ascii}
use Rattle.text.specs.Blank.{trim}
use Rattle.text.specs.Fields.{fields}
use Rattle.elements.specs.declared.LineColor.TheVariants.{Black}
use Rattle.command_letters.specs.declared.command.Command.{Command}
use Rattle.command_letters.specs.declared.command.Command.TheVariants.{Clear, Reference, Line, Print, Other}
use Rattle.command_letters.specs.Command.{is_reference, is_print, command_of}
use Rattle.command_letters.specs.Print.{is_counts}
use Rattle.graphics.specs.Block.{opens_gw, gw_span}
use Rattle.walk_theory.specs.Normal.{none_left, and_solid}
use Rattle.grammar.specs.Units.{line, not_lf}
use Rattle.grammar.specs.Found.{first}
use Rattle.grammar.specs.WellFormed.{well_formed}
use Rattle.grammar.proofs.FrontLaws.{front_all}
use Rattle.grammar.proofs.UnitsOpensLaws.{opens_not}
use Rattle.grammar.proofs.SpelledLaws.{spelled}
use Rattle.grammar.proofs.FoundLaws.{reads}
use Rattle.line_changes.specs.OneLine.{lf, end, Changeable, Replaced}

box : Changeable (ascii "LO1,2,3,4")
unfolding opens_gw command_of is_reference is_print
box =
    record {
      one_line = front_all not_lf (ascii "LO1,2,3,4");
      no_graphic = opens_not (ascii "LO1,2,3,4") refl;
      no_n = λ i. let e : ◌≡◌ {A = Command} (Line Black) Clear = (spelled (trim (ascii "LO1,2,3,4")) Clear).1 i in let y : ◌≡◌ {A = ℕ} 0 1 = cc in omega arith;
      no_reference = λ i. let e : ◌≡◌ {A = Command} (Line Black) Reference = (spelled (trim (ascii "LO1,2,3,4")) Reference).1 i in let y : ◌≡◌ {A = ℕ} 0 1 = cc in omega arith;
      no_print = λ i. let e : ◌≡◌ {A = Command} (Line Black) Print = (spelled (trim (ascii "LO1,2,3,4")) Print).1 i in let y : ◌≡◌ {A = ℕ} 0 1 = cc in omega arith;
    }

remark : Changeable (ascii ";")
unfolding opens_gw command_of is_reference is_print
remark =
    record {
      one_line = front_all not_lf (ascii ";");
      no_graphic = opens_not (ascii ";") refl;
      no_n = λ i. let e : ◌≡◌ {A = Command} Other Clear = (spelled (trim (ascii ";")) Clear).1 i in let y : ◌≡◌ {A = ℕ} 0 1 = cc in omega arith;
      no_reference = λ i. let e : ◌≡◌ {A = Command} Other Reference = (spelled (trim (ascii ";")) Reference).1 i in let y : ◌≡◌ {A = ℕ} 0 1 = cc in omega arith;
      no_print = λ i. let e : ◌≡◌ {A = Command} Other Print = (spelled (trim (ascii ";")) Print).1 i in let y : ◌≡◌ {A = ℕ} 0 1 = cc in omega arith;
    }

by_lf : Replaced (ascii "R1\nLO1,2,3,4\nP\n") (ascii "R1\n;\nP\n") (ascii "LO1,2,3,4") (ascii ";") lf (line (ascii "R1") ∷ [])
unfolding first gw_span opens_gw well_formed command_of is_reference is_print is_counts fields
by_lf =
    record {
      front = ascii "R1\n";
      back = ascii "P\n";
      old = refl;
      new = refl;
      in_front = refl;
      begins = and_solid (λ rest. (reads.sound (ascii "R1\n") (line (ascii "R1")) [] refl).1) none_left;
      old_ends = tt;
      new_ends = tt;
      old_line = box;
      new_line = remark;
    }

by_the_end : Replaced (ascii ";\nLO1,2,3,4") (ascii ";\n;") (ascii "LO1,2,3,4") (ascii ";") end (line (ascii ";") ∷ [])
unfolding first gw_span opens_gw well_formed command_of is_reference is_print is_counts fields
by_the_end =
    record {
      front = ascii ";\n";
      back = [];
      old = refl;
      new = refl;
      in_front = refl;
      begins = and_solid (λ rest. (reads.sound (ascii ";\n") (line (ascii ";")) [] refl).1) none_left;
      old_ends = (omega arith, refl);
      new_ends = (omega arith, refl);
      old_line = box;
      new_line = remark;
    }
