-- a part and its LF
pub mod LinesLaws
-- a line piece by piece
pub mod LinesPieceLaws
-- a line that is put piece by piece
pub mod PiecesLaws
