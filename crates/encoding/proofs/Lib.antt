-- Which tables a block holds, when it is valid, and that calls keep tables such as a decoder gives.
pub mod Folds
pub mod WellFormed
pub mod Encoded
pub mod Decoded
pub mod Capacity
pub mod ValidIff
pub mod Modes
pub mod MaskedTables
pub mod MaskedStep
