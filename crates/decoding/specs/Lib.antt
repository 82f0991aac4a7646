-- 01, "Grammar": the bytes of decoded data
pub mod Decoding
