-- the elements of a walk at one step, and what is counted, written and compared there
pub mod FindLaws
