-- 01, "Frames": kind, position, data and fields of an element
pub mod Plain
-- 01, "Who causes which number"
pub mod Refusals
-- 01, "Forms that change": where an element's data lies
pub mod Spans
-- 01, "For demand 3": the fresh state
pub mod Walk
-- 01, "Who causes which number": what a call that fills a lent buffer gives back
pub mod Given
