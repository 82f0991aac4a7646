-- inner: the nearest so far
pub mod Nearest
