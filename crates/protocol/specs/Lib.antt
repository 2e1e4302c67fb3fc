-- Document 01 as definitions, in its order: the tables, what a message is, what is in range, the
-- choice of stamps, fast reads (document 02), the steps, clearing, handing over and checking
-- (document 02), showing, the refusals, the calls.
pub mod Tables
pub mod Message
pub mod Range
pub mod Refusal
pub mod Choice
pub mod FastRead
pub mod Steps
pub mod Clear
pub mod HandOver
pub mod Check
pub mod LogFrame
pub mod Calls
