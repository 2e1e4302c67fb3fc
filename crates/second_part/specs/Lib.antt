-- The second part of a fast read on the block: what it writes.
pub mod SecondPart
