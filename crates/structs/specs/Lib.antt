-- 01, "Frames": the fields of elements by name
pub mod Fields
-- 01, "Frames": an element and an answer as named numbers
pub mod Flat
-- 01, "Forms that change": states and answers of steps, flat
pub mod Steps
-- 01, "Frames": a frame from the fields of an answer
pub mod Frames
-- 01, "Who causes which number": a length, or a refusal's number and place
pub mod Written
