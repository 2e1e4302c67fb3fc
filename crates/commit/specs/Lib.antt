-- A commit on the block.
pub mod Commit
