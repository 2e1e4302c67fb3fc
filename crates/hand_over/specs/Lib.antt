-- A hand-over on the block.
pub mod HandOver
