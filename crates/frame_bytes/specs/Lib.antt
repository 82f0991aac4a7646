-- 01, "Frames": the bytes of a frame
pub mod Frame
-- 01, "Frames": how a frame is printed
pub mod Hex
-- digits stored in a row, and the place after them
pub mod Put
