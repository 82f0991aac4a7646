-- the listing, as the loops over the steps want it
pub mod ListingLaws
-- how long it is, as the first pass counts it
pub mod ListingSizeLaws
-- what the programs print
pub mod PrintingLaws
-- how long a listing may be
pub mod ListingRoomLaws
-- a program, from standard input to standard output
pub mod PrintingProgramLaws
