-- `profile::unit::command_objection` meets its contract: the first byte decides.
-- Assumes nothing.
use Rattle.std.proofs.Common.{◌≡◌, refl, sym, ap, ◌∙◌, Bool, cond, List, [], ◌∷◌, ℕ, get_or, drop, arith}
use Rattle.command_letters.specs.Command.{is_reference, is_print, command_of}
use Rattle.command_letters.specs.declared.command.Command.{Command}
use Rattle.command_letters.specs.declared.command.Command.TheVariants.{Reference, Data, Box, Other}
use Rattle.command_letters.specs.declared.command.DataCommand.TheVariants.{Text, Barcode, Barcode2d}
use Rattle.command_letters.proofs.CommandLaws.{front, spelled, reads_reference, reads_line}
use Rattle.profile.specs.Profile.{reference_objection, command_objection}
use Rattle.profile.proofs.UnitLaws.{objects_other}
use Rattle.profile.proofs.unit.command_objection.Goals as goal

pub returns-then-is_epl_reference_point : goal.returns-then-is_epl_reference_point
returns-then-is_epl_reference_point c =
    let b = c.byte_at-a in
    let t = c.args.t.now in
    (c.reference_objection.ensures ∙ ap reference_objection c.tail.ensures)
    ∙ ap (λ (x : Command). command_objection x t) (spelled t b.result 81 Reference b.ensures c.in-82.is (reads_reference (drop 1 t) ∙ ap (λ (x : Bool). cond x Reference Other) (sym (ap is_reference (front t 81 (sym b.ensures ∙ c.in-82.is))) ∙ sym c.is_epl_reference_point.ensures ∙ c.if-is_epl_reference_point.true)))

pub returns-else-is_epl_reference_point : goal.returns-else-is_epl_reference_point
returns-else-is_epl_reference_point c =
    let b = c.byte_at-a in
    let t = c.args.t.now in
    ap (λ (x : Command). command_objection x t) (spelled t b.result 81 Other b.ensures c.in-82.is (reads_reference (drop 1 t) ∙ ap (λ (x : Bool). cond x Reference Other) (sym (ap is_reference (front t 81 (sym b.ensures ∙ c.in-82.is))) ∙ sym c.is_epl_reference_point.ensures ∙ c.if-is_epl_reference_point.false)))

pub returns-in-65 : goal.returns-in-65
unfolding command_of is_reference is_print
returns-in-65 c =
    let b = c.byte_at-a in
    let t = c.args.t.now in
    c.quoted_objection.ensures ∙ ap (λ (x : Command). command_objection x t) (spelled t b.result 64 (Data Text) b.ensures c.in-65.is refl)

pub returns-in-66 : goal.returns-in-66
unfolding command_of is_reference is_print
returns-in-66 c =
    let b = c.byte_at-a in
    let t = c.args.t.now in
    c.quoted_objection-in-66.ensures ∙ ap (λ (x : Command). command_objection x t) (spelled t b.result 65 (Data Barcode) b.ensures c.in-66.is refl)

pub returns-in-98 : goal.returns-in-98
unfolding command_of is_reference is_print
returns-in-98 c =
    let b = c.byte_at-a in
    let t = c.args.t.now in
    c.quoted_objection-in-98.ensures ∙ ap (λ (x : Command). command_objection x t) (spelled t b.result 97 (Data Barcode2d) b.ensures c.in-98.is refl)

pub returns-in-76 : goal.returns-in-76
returns-in-76 c =
    let b = c.byte_at-a in
    let t = c.args.t.now in
    c.drawn_objection.ensures
    ∙ ap (λ (x : Command). command_objection x t) (spelled t b.result 75 (command_of (76 ∷ c.byte_at.result ∷ [])) b.ensures c.in-76.is (reads_line (drop 1 t) ∙ sym (ap (λ (x : ℕ). command_of (76 ∷ x ∷ [])) (c.byte_at.ensures ∙ ap (λ (s : List ℕ). get_or s 1 0) (front t 75 (sym b.ensures ∙ c.in-76.is))))))

pub returns-in-88 : goal.returns-in-88
unfolding command_of is_reference is_print
returns-in-88 c =
    let b = c.byte_at-a in
    let t = c.args.t.now in
    let e : c.corners.result ≡ command_objection Box t = simp c.tail-in-88.ensures at c.corners.ensures in
    e ∙ ap (λ (x : Command). command_objection x t) (spelled t b.result 87 Box b.ensures c.in-88.is refl)

pub returns-in_default : goal.returns-in_default
returns-in_default c = sym (objects_other c.args.t.now (omega arith) (omega arith) (omega arith) (omega arith) (omega arith) (omega arith))
