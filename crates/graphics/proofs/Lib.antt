pub mod BlockLaws
pub mod Cases
