-- 01, "Writing EPL": an element as a host makes it
pub mod Unflat
