-- A commit on the block is the protocol's commit in the tables that it holds.
pub mod Committed
