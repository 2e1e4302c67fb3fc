-- What the other crates' definitions and proofs share: lists with a test, and a loop as a fold.
pub mod Lists
pub mod Fold
