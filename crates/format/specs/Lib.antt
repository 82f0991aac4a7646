-- 01, "format.rs": what is due to the normaliser
pub mod Normalise
