pub mod LineLaws
pub mod LineLaterLaws
