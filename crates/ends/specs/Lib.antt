-- Ends of transactions on the block: what they write.
pub mod Ends
