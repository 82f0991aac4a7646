-- what is claimed: read first
pub mod Claims
-- what the entry points promise; the walk of a function that meets it
pub mod HostContracts
-- 01, "Writing EPL": writing EPL
pub mod Writing
-- a text in which a byte does not stand; 01, "Grammar": which bytes are data
pub mod Free
pub mod Spanned
pub mod Walked
-- lines that differ in their colour; sizes and ratios by an element's own fields
pub mod Coloured
pub mod Sized
-- 01, "Frames": flat answers by all their fields
pub mod Zeroed
-- the code, and the contracts that it is proved to meet
pub mod Proved
-- 01, "One line changed": the changes that it names
pub mod Replacing
-- tables of computed cases: 01, "Corners", the starred ones; each command and type with distinct fields; the well-site
-- profile; one line changed
pub mod Table
pub mod Starred
pub mod Distinct
pub mod Profiled
pub mod Indexed
-- pairs of files, joined
pub mod Joined
pub mod Changed
pub mod Lying
-- 01, "What lies where": by numbers alone
pub mod Placed
-- 01, "From 203 to 300 dots": an opened label's elements with their places; labels converted
pub mod Framed
pub mod Converted
-- 01, "Writing EPL": labels written
pub mod Written
