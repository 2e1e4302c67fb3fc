-- Laws of the definitions.
pub mod Gathering
pub mod Owning
pub mod Tests
