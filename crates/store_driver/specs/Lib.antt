-- The definitions that the contracts of `store_driver` cite.
pub mod Turn
