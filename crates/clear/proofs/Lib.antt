-- Why a clearing on the block is the protocol's: the stamps gathered are those in use, a slot tells
-- of them, and the versions that stay move down in their order.
mod Slots
mod Read
mod Gathered
mod Staying
pub mod Cleared
