-- The invariant (tables alone, then the link to the history), runs of calls, and condition 3.
pub mod Common
pub mod Runs
pub mod Never
pub mod Sound
pub mod Link
pub mod Condition3
pub mod Committed
pub mod Examples
