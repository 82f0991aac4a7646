-- 01, "What lies where": positions, rectangles, distances
pub mod Place
-- 01, "What lies where": a label's elements, numbered
pub mod Element
-- what a call over a label's elements answers
pub mod Found
