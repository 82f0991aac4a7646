-- Inner: what is due to a call that writes a flat element. No claim rests on these: of the flat form of an element this
-- is `element_due` (`WriteLaws`).
use Rattle.std.specs.Prelude.{Bool, cond, ◌&&◌, List, ℕ, eqb, negsuc, length}
use Rattle.elements.specs.declared.DataSpan.{DataSpan}
use Rattle.elements.specs.Given.{Due, text, denied, within, longest}
use Rattle.frame_bytes.specs.Frame.{part}
use Rattle.structs.specs.declared.answer.Element.{Element}
use Rattle.writing_templates.specs.Fill.{fill}
use Rattle.writing_limits.specs.Fine.{is_number, is_line_at, fine_numbers, fine_bytes}
use Rattle.writing_templates.specs.Template.{template}

abbrev pub which_box : Element → ℕ
which_box e = cond (is_line_at e) 17 2

abbrev pub which_diagonal : Element → ℕ
which_diagonal e = cond (eqb e.direction 1) 3 18

abbrev pub which_pdf : Element → ℕ
which_pdf e = cond (is_number e 6 (negsuc 0)) 11 19

-- the template of an element
abbrev pub which_at : Element → ℕ
which_at e =
    cond (eqb e.kind 2) (which_box e)
    (cond (eqb e.kind 3) (which_diagonal e) (cond (eqb e.kind 11) (which_pdf e) e.kind))

abbrev pub can_write : ℕ → Element → List ℕ → Bool
can_write len e t = fine_bytes len e t && fine_numbers e t

abbrev pub span_at : Element → DataSpan
span_at e = record { start = e.data_start; len = e.data_len }

abbrev pub flat_due : List ℕ → Element → Due
flat_due s e =
    within longest s
    (cond (can_write (length s) e (part s (span_at e))) (text (fill e (part s (span_at e)) (template (which_at e))))
    (denied 23 0))
