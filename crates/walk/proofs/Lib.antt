-- the walk by a step's answer
pub mod WalkLaws
