-- A block holds its tables after a message is taken out.
pub mod EncodesTakeOut
