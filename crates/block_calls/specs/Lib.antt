-- The calls on the block: what each gives, and condition 3 about blocks.
pub mod Calls
pub mod Condition3
