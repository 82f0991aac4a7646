-- 01, "fonts.rs" and "Grammar": cells and text sizes
pub mod Font
-- 01, "Grammar": `A`
pub mod Text
