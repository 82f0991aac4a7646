pub mod CommandLaws
pub mod PrintLaws
