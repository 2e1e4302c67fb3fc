-- Laws of the definitions.
pub mod Lines
pub mod Reading
