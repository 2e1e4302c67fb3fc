-- A clearing on the block, and the stamps in use as its code gathers them.
pub mod Clear
pub mod Stamps
