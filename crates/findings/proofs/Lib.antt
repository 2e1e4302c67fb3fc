-- Laws of the definitions.
pub mod WellFormed
pub mod Owners
pub mod Faults
pub mod Theorem
pub mod Examples
