-- Inner: the strict walk as the code takes it: the plain walk, then a look at the units that it has read. No claim
-- rests on these.
use Rattle.std.specs.Prelude.{cond, List, ℕ, zero, suc, ◌+◌, ltb, drop}
use Rattle.elements.specs.declared.walk_state.WalkState.{WalkState}
use Rattle.walk_theory.specs.Reach.{Final, accepted, refusal}
use Rattle.walk_theory.specs.Trace.{final}
use Rattle.grammar.specs.Size.{unit_size}
use Rattle.walk.specs.Steps.{trace_of}
use Rattle.profile.specs.declared.rule.Objection.{Objection}
use Rattle.profile.specs.declared.rule.Objection.TheVariants.{Fine, To}
use Rattle.profile.specs.Profile.{objection}
use Rattle.strict.specs.declared.verdict.Checked.{Checked}
use Rattle.strict.specs.Verdict.{bare, told}

-- how the plain walk of s from w ends
abbrev pub end_of : List ℕ → WalkState → Final
end_of s w = final (trace_of s w)

-- in numbers
abbrev pub plainly : Final → Checked
plainly (accepted n) = bare 0 0
plainly (refusal n p) = bare n p

-- an objection to the unit at the place p, or what is said else
abbrev pub or_told : Objection → ℕ → Checked → Checked
or_told Fine p c = c
or_told (To k h) p c = told k h p

-- the first objection to a unit that begins before `end`, rest standing at the place `at`; c where there is none
abbrev pub looked_by : ℕ → List ℕ → ℕ → ℕ → Checked → Checked
looked_by zero rest at end c = c
looked_by (suc k) rest at end c =
    cond (ltb at end) (or_told (objection rest) at (looked_by k (drop (unit_size rest) rest) (at + unit_size rest) end c)) c
