-- The laws of the ends of transactions: each change of the block is a change of the tables that it
-- holds.
pub mod Seen
pub mod Copied
pub mod Rests
pub mod Ended
pub mod Touched
pub mod Commits
pub mod Past
