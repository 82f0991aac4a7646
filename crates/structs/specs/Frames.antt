-- The frame of a flat answer from its fields alone (01, "Frames"): what a host of the static library can write from
-- `laddertick_step`.
use Rattle.std.specs.Prelude.{cond, ◌||◌, List, [], ◌∷◌, ◌++◌, ℕ, zero, suc, eqb, nat_abs, length}
use Rattle.elements.specs.declared.DataSpan.{DataSpan}
use Rattle.elements.specs.declared.LabelPosition.{LabelPosition}
use Rattle.frame_bytes.specs.Frame.{be32, number, float, part, sized, decoded, head}
use Rattle.frame_bytes.specs.Frame.{frame_of, label_frame, pending_frame, refusal_frame}
use Rattle.walk_theory.specs.Step.{State, element, cleared, printed, ended, refused}
use Rattle.walk.specs.Steps.{EplAnswer}
use Rattle.structs.specs.declared.answer.FlatAnswer.{FlatAnswer}
use Rattle.structs.specs.declared.answer.Element.{Element}

-- where its data stands
abbrev pub span_flat : Element → DataSpan
span_flat e = record { start = e.data_start; len = e.data_len }

-- "kind, x, y"
abbrev pub head_flat : Element → List ℕ
head_flat e = head e.kind (record { x = e.x; y = e.y })

-- "rotation, narrow, height, line"
abbrev pub bars_flat : Element → List ℕ
bars_flat e = e.rotation ∷ number e.width ++ number e.height ++ (e.line ∷ [])

-- what follows, by the kind k
abbrev pub rest_flat : ℕ → List ℕ → Element → List ℕ
rest_flat k s e =
    -- "01 text: rotation flag (0 to 3), reverse flag, font, horizontal and vertical multiplier, height and width f64,
    -- data"
    cond (eqb k 1)
    ((e.rotation ∷ []) ++ (e.reverse ∷ [])
    ++ (number e.font ++ number e.horizontal ++ number e.vertical)
    ++ float e.text_height ++ float e.text_width ++ decoded s (span_flat e))
    -- "02 box: width, height, thickness, colour flag"; "03 diagonal: width, height, thickness, direction flag"
    (cond (eqb k 2) (number e.width ++ number e.height ++ number e.thickness ++ (e.colour ∷ []))
    (cond (eqb k 3) (number e.width ++ number e.height ++ number e.thickness ++ (e.direction ∷ []))
    -- "04 graphic: row bytes, total, data (the payload, not decoded)"
    (cond (eqb k 4) (number e.row_bytes ++ be32 (length (part s (span_flat e))) ++ sized (part s (span_flat e)))
    -- "05 Code 128: rotation, narrow, height, line flag, mode flag .., data"
    (cond (eqb k 5) (bars_flat e ++ (nat_abs e.mode ∷ []) ++ decoded s (span_flat e))
    -- "06 EAN-13, 07 EAN-8, 08 UPC-A, 10 UPC-E: rotation, narrow, height, line, data"
    (cond (eqb k 6 || eqb k 7 || eqb k 8 || eqb k 0x10) (bars_flat e ++ decoded s (span_flat e))
    -- "09 2 of 5, 0a Code 39: rotation, narrow, height, line, check flag, wide, ratio f64, data"
    (cond (eqb k 9 || eqb k 0x0a)
    (bars_flat e ++ (e.check ∷ []) ++ number e.wide ++ float e.ratio ++ decoded s (span_flat e))
    -- "0b PDF417: rotation, row height, security, columns, rows, truncate flag, module width, data"
    (cond (eqb k 0x0b)
    ((e.rotation ∷ []) ++ (number e.height ++ number e.security ++ number e.columns ++ number e.rows)
    ++ (e.truncate ∷ []) ++ number e.width ++ decoded s (span_flat e))
    -- "0c Aztec: magnification, size, data; 0d Data Matrix: module, columns, rows, data"
    (cond (eqb k 0x0c) (number e.magnification ++ number e.size ++ decoded s (span_flat e))
    (cond (eqb k 0x0d) (number e.height ++ number e.columns ++ number e.rows ++ decoded s (span_flat e))
    -- "0e QR: magnification, level letter (1 byte), data; 0f MaxiCode: mode, data"
    (cond (eqb k 0x0e) (number e.magnification ++ (e.level ∷ []) ++ decoded s (span_flat e))
    (number e.mode ++ decoded s (span_flat e))))))))))))

-- an element's frame
abbrev pub element_flat : List ℕ → Element → List ℕ
element_flat s e = head_flat e ++ rest_flat e.kind s e

-- the end's: "frame fe and their count, only if there are some"
abbrev pub end_frame : ℕ → List ℕ
end_frame zero = []
end_frame (suc n) = pending_frame (suc n)

-- "00: element count"; "ff, its number (1 byte), its place"; a clear (17) has no frame; the end (18) has one for what
-- is pending in its state
abbrev pub frame_flat : List ℕ → FlatAnswer → List ℕ
frame_flat s a =
    cond (eqb a.kind 0) (label_frame a.count (record { sets = a.sets; copies = a.copies }))
    (cond (eqb a.kind 255) (refusal_frame a.number a.place)
    (cond (eqb a.kind 17) []
    (cond (eqb a.kind 18) (end_frame a.next.pending)
    (element_flat s a.element))))

-- the frame of what a step answers, and the state that it returns
abbrev pub answer_frame : List ℕ → EplAnswer → List ℕ
answer_frame s (element e st) = frame_of s e
answer_frame s (cleared st) = []
answer_frame s (printed n q st) = label_frame n q
answer_frame s (ended st) = end_frame st.pending
answer_frame s (refused n p st) = refusal_frame n p

abbrev pub state_in : EplAnswer → State LabelPosition
state_in (element e st) = st
state_in (cleared st) = st
state_in (printed n q st) = st
state_in (ended st) = st
state_in (refused n p st) = st
