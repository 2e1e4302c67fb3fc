-- Laws of the frames and of the answers as lines, and rows of both.
pub mod Parsing
pub mod Reading
pub mod Writing
mod Examples
