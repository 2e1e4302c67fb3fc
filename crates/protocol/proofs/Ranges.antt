-- The tests of the range as records of plain facts, from the parts up to the tables.
pub mod Values
pub mod Clients
pub mod Tables
