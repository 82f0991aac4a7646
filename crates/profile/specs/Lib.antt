-- 01, "The well-site profile": what it has against what stands first, as it is checked
pub mod Profile
-- 01, "The well-site profile": what it asks of a file's fields, apart from how it is checked
pub mod Asks
-- 01, "The well-site profile": the strict reading
pub mod Strict
