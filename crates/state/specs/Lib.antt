pub mod States
pub mod Status
pub mod Registers
pub mod Waiting
pub mod TableWrites
pub mod Control
pub mod Entries
