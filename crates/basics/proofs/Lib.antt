-- Laws of the definitions.
pub mod Cases
pub mod Lists
pub mod Fold
pub mod Turns
