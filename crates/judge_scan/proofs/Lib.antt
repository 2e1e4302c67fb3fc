-- Laws of the definitions.
pub mod Rising
pub mod Scanning
pub mod Taking
