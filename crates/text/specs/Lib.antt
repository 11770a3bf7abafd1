pub mod Syntax
pub mod Text
pub mod Lines
pub mod Candidate
pub mod Calls
