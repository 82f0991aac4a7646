-- 01, "format.rs": a line without the blanks at its ends
pub mod Lines
