-- Laws of the definitions.
pub mod Laws
pub mod Counts
pub mod Members
pub mod SetOf
pub mod Least
pub mod Bits
pub mod Pass
pub mod Visits
