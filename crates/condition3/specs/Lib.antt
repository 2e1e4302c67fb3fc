-- Runs of calls with provenance, condition 3 of the tender, and what is promised of tables that the
-- check accepts.
pub mod World
pub mod Condition3
pub mod Held
