-- the normalised text from a place on
pub mod NormaliseLaws
