-- What is told of a message before it is delivered.
pub mod Tests
