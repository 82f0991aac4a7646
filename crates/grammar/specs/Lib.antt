-- 01, "Grammar", apart from how it is read: the letters of each command; what is wrong with a line; graphic blocks
-- and command lines
pub mod Spelled
pub mod LineFaults
pub mod Units
-- 01, "Grammar": "it must be well formed", as the reader tests it
pub mod WellFormed
-- what stands first in a string
pub mod Found
-- the bytes of what stands first
pub mod Size
-- EPL as a language of units
pub mod Epl
-- 01, "format.rs": what becomes of units, apart from how it is written; normalised text
pub mod Becomes
pub mod Normal
-- a line as a reader of one unit answers it
pub mod Turn
-- 01's words apart from the readers' definitions, which are proved equal to them. "Grammar": "A number field"
pub mod NumberField
-- "For demand 3": "Positions and sizes are ..", what a unit does; "Frames": the kind and the place of what it yields
pub mod Ranges
pub mod Shapes
-- "Who causes which number": what is wrong with what stands first
pub mod Faults
-- "For demand 3": the labels of a division; "the earliest refused line"
pub mod Divided
