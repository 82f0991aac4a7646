-- the nearest so far
pub mod NearestLaws
