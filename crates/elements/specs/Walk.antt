-- The state of a walk (01, "Forms that change": "The state is the place, the reference and the pending count").
use Rattle.std.specs.Prelude.{pos}
use Rattle.elements.specs.declared.walk_state.WalkState.{WalkState}

-- "the fresh state is place 0, reference 0,0, pending count 0"
abbrev pub fresh : WalkState
fresh = record { place = 0; reference = record { x = pos 0; y = pos 0 }; pending = 0 }
