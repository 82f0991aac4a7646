-- 01, "Grammar": "Tested in this order"
pub mod Command
-- 01, "Grammar": print lines
pub mod Print
-- 01, "Grammar": `R`
pub mod Reference
