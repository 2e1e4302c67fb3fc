-- What the contracts of `gather` cite besides the protocol.
pub mod Sized
pub mod Words
