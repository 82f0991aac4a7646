-- what a unit does, as the theory's reading of it, with 01's numbers for its refusals
pub mod Unit
