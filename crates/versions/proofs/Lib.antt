-- The laws of the search, and of a version's words.
mod Words
pub mod First
