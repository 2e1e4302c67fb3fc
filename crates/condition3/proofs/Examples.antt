-- The words of condition 3, computed on document 01's session and on runs around it.
pub mod Spans
pub mod Own
pub mod Fast
pub mod Held
pub mod Mixed
