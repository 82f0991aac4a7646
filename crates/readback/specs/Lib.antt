-- 01, "Writing EPL": elements compared by their bytes
pub mod Shown
-- what an element's type says of its numbers
pub mod Fits
-- 01, "Writing EPL": 23 for no other element
pub mod Exact
-- 01, "Writing EPL": an element and a label as units, and read back
pub mod Written
