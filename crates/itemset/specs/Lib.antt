-- The definitions that the contracts of `itemset` cite.
pub mod Set
