-- The block: where each field lies, and which tables the words are.
pub mod Layout
pub mod Decode
pub mod Encodes
pub mod Store
