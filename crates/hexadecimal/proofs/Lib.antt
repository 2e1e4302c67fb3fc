-- The proofs of `hex`, and the laws that they share.
mod Pairs
pub mod Bytes
pub mod Checked
pub mod Decoding
pub mod Digits
mod Examples
pub mod Line
pub mod Number
pub mod Stores
pub mod Text
