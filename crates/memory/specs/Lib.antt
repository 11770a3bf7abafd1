pub mod Meaning
pub mod Flat
pub mod Split
pub mod Either
