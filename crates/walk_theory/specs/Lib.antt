-- a language of units
pub mod Language
-- 01, "Grammar": "An input is a run of units"
pub mod Division
-- 01, "For demand 3": "Labels of a division"
pub mod Labels
-- 01, "Forms that change": one step
pub mod Step
-- one unit as a reader of code answers it
pub mod Reading
-- 01, "For demand 3": the whole walk, "Labels answered"
pub mod Reach
-- the whole walk as one value, and how each answer moves it on
pub mod Trace
-- 01, "format.rs": normalised text
pub mod Normal
-- the label index: an entry for each label, and what opening one answers
pub mod Index
-- the same one entry at a time
pub mod Next
-- what a language of units has to show, and what follows
pub mod Claims
-- 01, "The well-site profile": a strict reading of a language of units
pub mod Strict
-- joining two runs
pub mod Join
-- 01, "One line changed", of any language of units
pub mod Change
