-- fields by their rules, a line by its first byte
pub mod RuleLaws
pub mod UnitLaws
-- what is asked: of a field, of what stands first
pub mod AsksFieldLaws
pub mod AsksLaws
-- the strict reading
pub mod StrictLaws
