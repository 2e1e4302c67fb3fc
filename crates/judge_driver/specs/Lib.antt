-- The definitions that the contracts of `judge_driver` cite.
pub mod Input
