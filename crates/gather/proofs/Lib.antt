-- The law of gathered tests, and what the words that are gathered of a stamp, an entry and a
-- version tell.
pub mod Tested
pub mod Gathers
pub mod Bits
pub mod Sizes
pub mod Parts
pub mod Stamps
pub mod OwnedStamps
pub mod Versions
