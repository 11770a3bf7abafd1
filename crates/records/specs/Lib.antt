pub mod Faults
pub mod Kinds
pub mod Records
pub mod Files
pub mod Readings
