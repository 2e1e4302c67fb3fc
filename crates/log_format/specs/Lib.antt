-- A log as the judge reads it: `Log` is the text to believe; `Some` has the searches that it uses.
pub mod Log
pub mod Some
