-- The laws of the tests of a block's words.
pub mod EntryTests
pub mod Sums
pub mod CapacityTests
pub mod BlockTests
