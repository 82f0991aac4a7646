-- characters for bytes
pub mod Ascii
-- 01, "Grammar": "Data is decoded as `from_utf8_lossy` does"
pub mod Utf8
-- 01, "Grammar": ASCII blanks, and Unicode blanks taken off both ends
pub mod Blank
-- digits and letters
pub mod Class
-- 01, "Grammar": fields, and data between quotes
pub mod Fields
-- texts with their meaning
pub mod Table
-- a search by places
pub mod Scan
-- bytes stored in a row, and the place after them
pub mod Wrote
-- bytes side by side in one number
pub mod Word
