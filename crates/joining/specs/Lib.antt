-- 01, "Joining two files": what is due to a call that joins, and what it answers
pub mod Join
