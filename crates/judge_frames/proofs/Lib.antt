-- Laws of the definitions.
pub mod Cuts
