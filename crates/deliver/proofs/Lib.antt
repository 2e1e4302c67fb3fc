-- The laws of the deliveries: each change of the block is the protocol's change of the tables that
-- it holds.
pub mod Rows
pub mod Struck
pub mod Replied
pub mod Answered
pub mod Mixed
pub mod Got
pub mod First
pub mod Worked
pub mod Delivered
pub mod Past
