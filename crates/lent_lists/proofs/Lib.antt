-- a loop that fills a list from the front; a loop that passes one
pub mod Fill
pub mod Pass
