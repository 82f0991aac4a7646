-- 01, "Grammar": `LO`, `LW`, `LE`, `LS`, `X`
pub mod Draw
-- inner: corners by axes, as the reader draws them
pub mod Axes
