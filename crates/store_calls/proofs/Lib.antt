-- What a refused call gives.
pub mod Refused
