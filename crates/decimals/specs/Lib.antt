-- 01, "Writing EPL": a number as it is written
pub mod Decimal
-- 01, "Writing EPL": fields joined by commas
pub mod Joined
