-- fronts of a string
pub mod FrontLaws
-- 01's words and the reader's tests: the letters of a command, what is wrong with a line, `GW`
pub mod SpelledLaws
pub mod LineFaultsLaws
pub mod UnitsOpensLaws
-- what stands first is found: a line, a block, either
pub mod FoundLineLaws
pub mod FoundBlockLaws
pub mod FoundLaws
-- what a reader of one unit answers for a line, for a block
pub mod TurnLineLaws
pub mod TurnBlockLaws
-- how many bytes it has
pub mod SizeLaws
-- the reader and the grammar: types, each command, a line
pub mod Barcode2dTypeLaws
pub mod WellFormedCommandLaws
pub mod WellFormedLaws
-- where the data of an element lies, and how long its line is
pub mod EplLaws
pub mod WellFormedLengthLaws
-- normalised text: what is taken first; a line without its blanks; a unit's normal form; the whole
pub mod NormalChunkLaws
pub mod UnitsTrimmedLaws
pub mod NormalLaws
pub mod Normalises
pub mod BecomesLaws
-- 01's words and the reader: the numbers of a unit and what it does; its element's kind and place; a number field
pub mod RangesLaws
pub mod ShapesLaws
pub mod NumberFieldLaws
-- 01's words and the reader, of a division: its labels; and of what is refused: what stands first, the earliest
pub mod DividedLabelsLaws
pub mod FaultsLaws
pub mod DividedEarliestLaws
