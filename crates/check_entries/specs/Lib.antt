-- The tables that a check looks in.
pub mod Entries
