-- What parsing a frame answers.
pub mod Parsed
