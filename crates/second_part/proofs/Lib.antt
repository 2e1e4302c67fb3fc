-- The laws of the second part of a fast read: the stamps that its first replies show, and that the
-- change of the block is the protocol's change of the tables.
pub mod Shown
pub mod Rows
pub mod Encodes
pub mod Past
