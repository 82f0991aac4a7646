-- 01, "Grammar": "The reference is added to every position"
pub mod Position
-- 01, "Grammar": "Rotations 1, 2, 3 are quarter turns, others 0"
pub mod Rotation
-- 01, "Grammar": fields in order, their numbers and defaults
pub mod FieldValues
-- 01, "Forms that change": what a line says at a later place
pub mod Reading
-- inner: the parameter part as readers read it
pub mod Params
