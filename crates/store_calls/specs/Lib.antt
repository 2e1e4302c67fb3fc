-- The answer of a call that may be refused.
pub mod Answered
