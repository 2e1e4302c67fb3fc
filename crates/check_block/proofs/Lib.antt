-- Why the tests of all places are the check, and why no look of a check is long.
pub mod Short
mod Whole
