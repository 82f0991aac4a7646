-- the plain walk, one step; the look at what it has read
pub mod PlainLaws
pub mod LookLaws
-- what is due to a listing under the profile
pub mod ListingLaws
-- what the verdict says
pub mod VerdictLaws
