pub mod WriteLaws
pub mod PlaceLaws
pub mod PlainLaws
