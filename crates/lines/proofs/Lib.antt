-- The proofs of `lines`, and the laws that they share.
pub mod Unmade
mod Kept
pub mod Feeding
pub mod Whole
mod Examples
