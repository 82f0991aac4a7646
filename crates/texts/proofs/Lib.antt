-- 01, "Grammar": where a text's width is exact, and that it is a number
pub mod FontLaws
-- 01's cases of fonts and sizes
pub mod Cases
