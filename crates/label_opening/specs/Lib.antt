-- 01, "The label index": opening one label
pub mod Opened
