pub mod IntLaws
pub mod NumberLaws
pub mod NumberPlainLaws
pub mod Cases
