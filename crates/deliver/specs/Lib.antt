-- Deliveries on the block: what they write.
pub mod Deliver
