-- 15 is never printed
pub mod PrintedLaws
