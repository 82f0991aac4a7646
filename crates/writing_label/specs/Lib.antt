-- 01, "Writing EPL": a label from a list of structs
pub mod Label
-- inner: a pass over its elements
pub mod Tally
-- inner: what is answered
pub mod Plan
