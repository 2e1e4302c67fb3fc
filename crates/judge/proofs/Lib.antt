-- Laws of the definitions.
pub mod Answer
pub mod Searching
pub mod Shown
