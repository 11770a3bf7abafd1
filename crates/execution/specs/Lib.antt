pub mod Worlds
pub mod Execution
