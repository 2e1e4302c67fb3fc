-- The definitions that the contracts of `hex` cite.
pub mod Bytes
pub mod Decode
pub mod Digit
pub mod Line
pub mod Number
pub mod Text
