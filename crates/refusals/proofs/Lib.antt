-- The laws of the refusal table's tests.
pub mod Table
