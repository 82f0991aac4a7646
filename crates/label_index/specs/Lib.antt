-- 01, "The label index": the code's entries as the theory's, and the next one
pub mod Entries
-- a line told by its first letters
pub mod Glance
-- what is due to a call that fills a list
pub mod Plan
