-- What a search among the stored versions finds.
pub mod Found
