-- Laws of the definitions.
pub mod Each
pub mod Encoding
pub mod Lines
pub mod Parts
pub mod Rows
pub mod Some
pub mod Ranges
