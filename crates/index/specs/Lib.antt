-- The places of keys, and the links that name them.
pub mod Index
