-- 01, "Who causes which number", 13 and 19: sums, differences, absolute values and products at 32 bits
pub mod Int
-- 01, "Grammar": "A number field"
pub mod Number
