pub mod HexLaws
pub mod PutLaws
pub mod FramePartLaws
pub mod FrameLaws
pub mod Cases
