pub mod Sound
pub mod Calls
pub mod Steps
pub mod Runs
pub mod Cards
pub mod Laws
