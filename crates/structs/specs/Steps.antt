-- The flat answers of the static library for those of the theory (01, "Forms that change").
use Rattle.elements.specs.declared.LabelPosition.{LabelPosition}
use Rattle.elements.specs.declared.walk_state.WalkState.{WalkState}
use Rattle.walk_theory.specs.Step.{State, element, cleared, printed, ended, refused}
use Rattle.walk.specs.Steps.{EplAnswer}
use Rattle.structs.specs.Flat.{event, answered, flat_element}
use Rattle.structs.specs.Flat as parts
use Rattle.structs.specs.declared.answer.FlatAnswer as flat

-- "The state is the place, the reference and the pending count"
abbrev pub walk_of : State LabelPosition → WalkState
walk_of st = record { place = st.place; reference = st.ref; pending = st.pending }

-- "each step answers an element, a clear, a print, the end or a refusal": an element as 1 to 16, a clear as 17, a print
-- as 0 ("00: element count, sets, copies"), the end as 18, a refusal as 255 ("ff, its number (1 byte), its place");
-- each with its state
abbrev pub flat_of : EplAnswer → flat.FlatAnswer
flat_of (element e st) = answered (flat_element e) (walk_of st)
flat_of (cleared st) = event 17 0 0 (walk_of st)
flat_of (printed n q st) = parts.printed n q (walk_of st)
flat_of (ended st) = event 18 0 0 (walk_of st)
flat_of (refused k p st) = event 255 k p (walk_of st)
