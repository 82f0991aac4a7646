-- 01, "Frames": the listing
pub mod Listing
-- 01, "Frames": what the programs print
pub mod Printing
