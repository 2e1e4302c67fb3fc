-- The laws of the tests of a client's words.
pub mod Subsets
pub mod FirstTests
pub mod ClientTests
pub mod Chains
