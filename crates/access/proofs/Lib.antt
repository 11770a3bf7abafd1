pub mod Passed
pub mod Confining
