-- the classes of bytes and their table
pub mod Classes
