pub mod FillLaws
pub mod TemplateLaws
pub mod SpellLaws
