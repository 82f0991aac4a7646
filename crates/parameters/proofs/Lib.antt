pub mod FloatLaws
pub mod ParamsLaws
pub mod PlaceLaws
