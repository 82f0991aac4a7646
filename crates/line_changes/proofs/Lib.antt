-- one line: what it spells stands first, and it yields or passes
pub mod LineLaws
-- what units make of the label at hand
pub mod FateLaws
-- one line changed
pub mod OneLineLaws
-- two files of which it is asked
pub mod Cases
