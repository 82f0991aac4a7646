-- a pass over elements of which each has a text or none
pub mod TallyLaws
-- two passes are what is due
pub mod PlanLaws
-- the print line
pub mod PrintLaws
-- the same from what is known where they are made, at either resolution
pub mod Dues
-- what a label of structs is due, by its elements
pub mod LabelLaws
