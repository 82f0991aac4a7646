pub mod Cases
pub mod DrawLaws
