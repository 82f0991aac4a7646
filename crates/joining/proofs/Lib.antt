-- what is due by how the two walks end, and what the code does with it
pub mod JoinLaws
-- the line `N`, and the claims of the joined text for EPL
pub mod EplLaws
