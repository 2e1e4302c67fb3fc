-- A block that holds tables holds those of the steps after every call; what a call gives, from the
-- words of the block; that words past a block's needed length stay; condition 3 about blocks.
pub mod Changed
pub mod Holds
pub mod Fresh
pub mod Accepted
pub mod Tested
pub mod Given
pub mod Places
pub mod Past
pub mod Fits
pub mod Examples
pub mod Condition3
