-- Why a look by links tells what is stored, and a stamp's write set; why the tests by place are the
-- check.
pub mod Keys
pub mod Entries
pub mod Block
pub mod Truncated
pub mod Read
pub mod Parts
