-- elements with the places of their lines
pub mod Placed
-- 01, "From 203 to 300 dots": one label
pub mod Conversion
-- the same along the walk
pub mod Walked
-- 01, "From 203 to 300 dots": one label, element by element
pub mod Promise
