-- 01, "The well-site profile": what the check of a file answers
pub mod Verdict
-- 01, "The well-site profile": the listing under it
pub mod Listing
-- inner: the look at the units that the plain walk has read
pub mod Look
