-- 01, "Grammar": "The ratio of wide to narrow is one f64 division, at least 2.0"
pub mod Ratio
-- 01, "Grammar": `B` and its fifteen types
pub mod Barcode
-- inner: how the reader tells a type
pub mod Letters
