-- The bytes of a set's items one after the other, and the frame that a block holds.
pub mod Listed
pub mod LogFrames
