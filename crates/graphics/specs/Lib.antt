-- 01, "Grammar": graphic blocks
pub mod Block
