-- an answer and its frame
pub mod FramesLaws
pub mod WrittenLaws
