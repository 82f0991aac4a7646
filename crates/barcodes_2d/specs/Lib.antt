-- 01, "Grammar": the parameters of `b`, as `parse_epl_2d_params` reads them
pub mod Options
-- 01, "Corners": MaxiCode's automatic mode
pub mod Maxicode
-- 01, "Grammar": `b` and its five types
pub mod Barcode2d
-- inner: how the reader tells a type, and goes through parameters
pub mod Letters
pub mod OptionSteps
