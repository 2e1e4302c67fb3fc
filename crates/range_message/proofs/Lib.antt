-- The laws of the tests of a message's words.
pub mod MessageTests
pub mod Gathering
