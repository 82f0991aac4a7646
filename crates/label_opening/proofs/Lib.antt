-- the first label of a walk, and the entry that was found
pub mod FirstLaws
