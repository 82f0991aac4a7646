-- 01, "Writing EPL": a line with data as it is written
pub mod Quoted
-- 01, "Writing EPL": boxes and diagonals
pub mod Draws
-- 01, "Writing EPL": texts and bar codes
pub mod Codes
-- 01, "Writing EPL": 2D bar codes
pub mod Codes2d
-- 01, "Writing EPL": sizes and ratios by their bits
pub mod Fonts
-- 01, "Writing EPL": an element and a label
pub mod Spelled
-- 01, "Writing EPL": 23
pub mod Writable
-- 01, "Writing EPL": text or refusal
pub mod Due
