-- Why the code of a check of entries does what the parts say.
pub mod Good
pub mod Ranged
pub mod Facts
pub mod Every
