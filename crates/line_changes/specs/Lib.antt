-- 01, "One line changed"
pub mod OneLine
