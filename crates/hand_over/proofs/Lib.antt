-- A hand-over on the block is the protocol's in the tables that it holds, and so is a comparison.
pub mod HandedOver
pub mod Compared
