-- `command_letters::command::command_of` meets its contract: the first byte decides.
use mathlib.Core.Path.{refl, sym, ap, ◌∙◌}
use mathlib.Core.Bool.{Bool, cond}
use mathlib.Core.List.{List, [], ◌∷◌}
use Prim.Native.Nat.{ℕ}
use lib.ListN.{get_or, drop}
use Rattle.command_letters.specs.Command.{is_reference, is_print, command_of}
use Rattle.command_letters.specs.declared.command.DataCommand.TheVariants.{Text, Barcode, Barcode2d}
use Rattle.command_letters.specs.declared.command.Command.TheVariants.{Clear, Reference, Data, Box, Print, Other}
use Rattle.command_letters.proofs.CommandLaws.{front, spelled, reads_clear, reads_no_clear, reads_reference, reads_print, reads_line, reads_other}
use native.Mathlib.Omega.{arith}
use Rattle.command_letters.proofs.command.command_of.Goals as goal

pub returns-then-t-eq1 : goal.returns-then-t-eq1
returns-then-t-eq1 c =
    let b = c.byte_at-a in
    let t = c.args.t.now in
    spelled t b.result 77 Clear b.ensures c.in-78.is (reads_clear t c.if-t-eq1.true)

pub returns-else-t-eq1 : goal.returns-else-t-eq1
returns-else-t-eq1 c =
    let b = c.byte_at-a in
    let t = c.args.t.now in
    spelled t b.result 77 Other b.ensures c.in-78.is (reads_no_clear t (sym b.ensures ∙ c.in-78.is) c.if-t-eq1.false)

pub returns-then-is_epl_reference_point : goal.returns-then-is_epl_reference_point
returns-then-is_epl_reference_point c =
    let b = c.byte_at-a in
    let t = c.args.t.now in
    spelled t b.result 81 Reference b.ensures c.in-82.is (reads_reference (drop 1 t) ∙ ap (λ (x : Bool). cond x Reference Other) (sym (ap is_reference (front t 81 (sym b.ensures ∙ c.in-82.is))) ∙ sym c.is_epl_reference_point.ensures ∙ c.if-is_epl_reference_point.true))

pub returns-else-is_epl_reference_point : goal.returns-else-is_epl_reference_point
returns-else-is_epl_reference_point c =
    let b = c.byte_at-a in
    let t = c.args.t.now in
    spelled t b.result 81 Other b.ensures c.in-82.is (reads_reference (drop 1 t) ∙ ap (λ (x : Bool). cond x Reference Other) (sym (ap is_reference (front t 81 (sym b.ensures ∙ c.in-82.is))) ∙ sym c.is_epl_reference_point.ensures ∙ c.if-is_epl_reference_point.false))

pub returns-in-65 : goal.returns-in-65
unfolding command_of is_reference is_print
returns-in-65 c =
    let b = c.byte_at-a in
    let t = c.args.t.now in
    spelled t b.result 64 (Data Text) b.ensures c.in-65.is refl

pub returns-in-66 : goal.returns-in-66
unfolding command_of is_reference is_print
returns-in-66 c =
    let b = c.byte_at-a in
    let t = c.args.t.now in
    spelled t b.result 65 (Data Barcode) b.ensures c.in-66.is refl

pub returns-in-98 : goal.returns-in-98
unfolding command_of is_reference is_print
returns-in-98 c =
    let b = c.byte_at-a in
    let t = c.args.t.now in
    spelled t b.result 97 (Data Barcode2d) b.ensures c.in-98.is refl

pub returns-in-76 : goal.returns-in-76
returns-in-76 c =
    let b = c.byte_at-a in
    let t = c.args.t.now in
    spelled t b.result 75 c.line_command.result b.ensures c.in-76.is (reads_line (drop 1 t) ∙ sym (c.line_command.ensures ∙ ap (λ (x : ℕ). command_of (76 ∷ x ∷ [])) (c.byte_at.ensures ∙ ap (λ (s : List ℕ). get_or s 1 0) (front t 75 (sym b.ensures ∙ c.in-76.is)))))

pub returns-in-88 : goal.returns-in-88
unfolding command_of is_reference is_print
returns-in-88 c =
    let b = c.byte_at-a in
    let t = c.args.t.now in
    spelled t b.result 87 Box b.ensures c.in-88.is refl

pub returns-then-is_epl_print_command : goal.returns-then-is_epl_print_command
returns-then-is_epl_print_command c =
    let b = c.byte_at-a in
    let t = c.args.t.now in
    spelled t b.result 79 Print b.ensures c.in-80.is (reads_print (drop 1 t) ∙ ap (λ (x : Bool). cond x Print Other) (sym (ap is_print (front t 79 (sym b.ensures ∙ c.in-80.is))) ∙ sym c.is_epl_print_command.ensures ∙ c.if-is_epl_print_command.true))

pub returns-else-is_epl_print_command : goal.returns-else-is_epl_print_command
returns-else-is_epl_print_command c =
    let b = c.byte_at-a in
    let t = c.args.t.now in
    spelled t b.result 79 Other b.ensures c.in-80.is (reads_print (drop 1 t) ∙ ap (λ (x : Bool). cond x Print Other) (sym (ap is_print (front t 79 (sym b.ensures ∙ c.in-80.is))) ∙ sym c.is_epl_print_command.ensures ∙ c.if-is_epl_print_command.false))

pub returns-in_default : goal.returns-in_default
returns-in_default c =
    sym (reads_other c.args.t.now (omega arith) (omega arith) (omega arith) (omega arith) (omega arith) (omega arith) (omega arith) (omega arith))
