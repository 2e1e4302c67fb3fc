-- What scanning a log keeps and answers.
pub mod Scan
