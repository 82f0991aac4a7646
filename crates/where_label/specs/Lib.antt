-- 01, "What lies where": what is due to the three calls
pub mod Found
-- inner: the elements of a walk, counted and numbered
pub mod Find
