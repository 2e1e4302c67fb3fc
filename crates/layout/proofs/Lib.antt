-- The laws of the block: a word after a store, what a block must have room for, and that the
-- changes of a block are those of the tables.
pub mod At
pub mod Sections
pub mod Past
mod SameEntry
pub mod RowEntries
pub mod Halves
pub mod Room
pub mod Parts
pub mod Kept
pub mod ClientWords
pub mod ClientHolds
pub mod SameBut
pub mod EncodesClient
pub mod EncodesEntry
pub mod EncodesLists
pub mod Same
pub mod Changed
pub mod Masked
pub mod Held
pub mod FirstWords
pub mod Blank
pub mod Fresh
