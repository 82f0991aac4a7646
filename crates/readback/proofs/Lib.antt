pub mod UnitLaws
pub mod GraphicLaws
pub mod ElementLaws
pub mod LabelLaws
pub mod ExactLaws
pub mod DueLaws
mod Cases
