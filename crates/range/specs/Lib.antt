-- What the contracts of `range` cite besides the layout and the protocol.
pub mod Entries
pub mod Block
