-- What a test of the refusal table answers.
pub mod Tested
