-- The findings and the verdict, and the published definitions as statements.
pub mod Findings
pub mod Published
