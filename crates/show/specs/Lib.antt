-- The log frame of a client's last ended transaction, read off the block.
pub mod Show
