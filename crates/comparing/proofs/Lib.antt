mod Turns
pub mod Chains
pub mod Telling
