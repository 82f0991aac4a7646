-- inner: numbers that are fine, by the fields of a flat element
pub mod Fine
