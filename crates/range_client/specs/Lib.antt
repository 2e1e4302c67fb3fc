-- What the contracts of `range_client` cite besides the layout and the protocol.
pub mod Entries
pub mod Clients
