-- a walk whose elements carry places; a label's elements along it; what is due for a label and an entry
pub mod PlacedLaws
pub mod WalkedLaws
pub mod PlanLaws
-- what the contract says, element by element
pub mod PromiseLaws
-- places are where units begin
pub mod BeginsLaws
