pub mod Events
pub mod Addresses
