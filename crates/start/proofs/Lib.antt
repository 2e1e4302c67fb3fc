-- The laws of the starts: the choice of stamps, the passes over the items, and that each start is
-- the protocol's change of the tables.
pub mod Raised
pub mod Choice
pub mod Kept
pub mod Numbers
pub mod Started
pub mod Ready
pub mod Asked
pub mod Valued
pub mod Sent
pub mod EncodesRead
pub mod EncodesWrite
pub mod EncodesMixed
pub mod Beyond
