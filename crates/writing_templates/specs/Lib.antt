-- inner: a template filled from a flat element
pub mod Fill
-- inner: the template of each command
pub mod Template
