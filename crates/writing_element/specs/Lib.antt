-- inner: what a flat element is due
pub mod Write
-- inner: a command at a place of a buffer
pub mod Place
-- 01, "Writing EPL": an element as a host makes it
pub mod Plain
