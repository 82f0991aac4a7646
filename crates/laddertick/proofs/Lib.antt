-- the tables of computed cases
pub mod Starred
pub mod Distinct
pub mod Profiled
pub mod IndexedRows
pub mod JoinedRows
pub mod Changed
pub mod Lying
pub mod Converted
pub mod Written
-- `LE` beside `LO`
pub mod ColouredLaws
-- data lies inside; sizes and ratios are those of an element's fields
pub mod StepInsideLaws
pub mod SizedLaws
-- flat answers by all their fields
pub mod ZeroedLaws
-- the walk by a function that meets the contract of `step`
pub mod WalkedLaws
-- demand 1, and what a call gives by what is due to it
pub mod ContractsLaws
-- which bytes are data; decoded data
pub mod SpannedLaws
pub mod DecodingLaws
-- some functions meet the contracts
pub mod LibraryLaws
-- the well-site profile: what is objected to is told
pub mod ObjectedLaws
-- the label index
pub mod IndexLaws
-- two files joined
pub mod JoinedLaws
-- one line changed
pub mod ReplacedLaws
-- what lies where
pub mod PlacedLaws
pub mod LyingLaws
pub mod LyingOwnLaws
-- from 203 to 300 dots
pub mod ResolutionLaws
-- writing EPL
pub mod WritingLabelLaws
pub mod SpellingLaws
pub mod WritingLaws
-- the code
pub mod Proved
-- the claims
pub mod Claims
