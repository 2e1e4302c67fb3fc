-- The definitions that the contracts of `judge_findings` cite.
pub mod Owned
pub mod Tests
pub mod Writes
