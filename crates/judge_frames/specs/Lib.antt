-- The definitions that the contracts of `judge_frames` cite.
pub mod Cut
