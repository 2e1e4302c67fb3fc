-- What parsing a frame answers, and which frame is malformed.
pub mod Parsing
