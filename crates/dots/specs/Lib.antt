-- 01, "From 203 to 300 dots": one length
pub mod Length
-- 01, "From 203 to 300 dots": one element
pub mod Element
