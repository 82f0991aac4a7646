-- The profile's verdict on a whole file (01, "The well-site profile"): how its strict walk ends, in numbers.
use Rattle.std.specs.Prelude.{Bool, cond, ◌||◌, List, ℕ, eqb, drop}
use Rattle.elements.specs.Walk.{fresh}
use Rattle.walk_theory.specs.Reach.{Final, accepted, refusal}
use Rattle.walk_theory.specs.Trace.{trace, final}
use Rattle.walk.specs.Steps.{state_of}
use Rattle.profile.specs.declared.rule.Held.{Held}
use Rattle.profile.specs.declared.rule.Objection.{Objection}
use Rattle.profile.specs.declared.rule.Objection.TheVariants.{Fine, To}
use Rattle.profile.specs.Profile.{number_of, kind_of, objection}
use Rattle.profile.specs.Strict.{strict}
use Rattle.strict.specs.declared.verdict.Checked.{Checked}

-- a refusal that tells of no field: field and held are 0
abbrev pub bare : ℕ → ℕ → Checked
bare n p = record { number = n; field = 0; held = 0; place = p }

-- 17 or 18 at the place p "also tells which field, from 1, and what it held"
abbrev pub told : ℕ → Held → ℕ → Checked
told k h p = record { number = number_of h; field = k; held = kind_of h; place = p }

-- the field of an objection, and what it held; 0 where there is none
abbrev pub field_of : Objection → ℕ
field_of Fine = 0
field_of (To k h) = k

abbrev pub held_of : Objection → ℕ
held_of Fine = 0
held_of (To k h) = kind_of h

-- the numbers that only the strict reading has
abbrev pub is_own : ℕ → Bool
is_own n = eqb n 17 || eqb n 18

-- what is objected to at the place of a refusal: only 17 and 18 tell of a field
abbrev pub objection_of : ℕ → List ℕ → Objection
objection_of n rest = cond (is_own n) (objection rest) Fine

-- of s, whose strict walk ends so: "number 0: all fields 0"; else the refusal, with the field of the unit at its place
abbrev pub verdict_of : List ℕ → Final → Checked
verdict_of s (accepted n) = bare 0 0
verdict_of s (refusal n p) =
    record {
      number = n;
      field = field_of (objection_of n (drop p s));
      held = held_of (objection_of n (drop p s));
      place = p;
    }

-- how the strict walk of s ends
abbrev pub strict_end : List ℕ → Final
strict_end s = final (trace strict s (state_of fresh))

abbrev pub checked_of : List ℕ → Checked
checked_of s = verdict_of s (strict_end s)
