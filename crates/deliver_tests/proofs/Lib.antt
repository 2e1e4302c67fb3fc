-- What is told of a message is what the tables say.
pub mod Bounds
pub mod TestedTables
pub mod Outcomes
