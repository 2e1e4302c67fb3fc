-- Why a walk tells the first place of a key, and why no walk is long.
pub mod Places
pub mod Short
