-- a list that is filled from the front
pub mod Filled
-- a list that is walked from the front
pub mod Passed
