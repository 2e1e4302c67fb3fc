-- The definitions that the contracts of `judge` cite; those of its promise stand in `findings`.
pub mod Search
