pub mod PlainLaws
pub mod GivenLaws
