-- The starts on the block: what they write, and the choice of stamps as one pass.
pub mod Start
pub mod Choice
