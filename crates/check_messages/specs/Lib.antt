-- The messages of a client's part.
pub mod Sides
