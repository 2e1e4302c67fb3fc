-- What a check looks at: the stamps and versions that it finds by links, and its tests by place.
pub mod Stamps
pub mod Parts
