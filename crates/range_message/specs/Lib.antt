-- What the contracts of `range_message` cite besides the layout and the protocol.
pub mod Messages
