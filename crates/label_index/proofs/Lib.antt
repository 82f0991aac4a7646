-- trimming the end of a line; a line told by its first bytes; lines in a row
pub mod TrimLaws
pub mod GlanceLaws
pub mod PastLaws
-- the entries that the loop makes are the index's; what is due to a call that fills a list
pub mod EntryLaws
pub mod PlanLaws
