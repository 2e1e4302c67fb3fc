-- What is in range stays in range, whatever the step.
pub mod Changes
pub mod Values
pub mod Starts
pub mod Firsts
pub mod Deliveries
