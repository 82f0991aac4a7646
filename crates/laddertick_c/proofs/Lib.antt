-- the code and its contracts
pub mod Proved
