-- 01, "Grammar": command lines
pub mod Line
