mod Turns
mod Keeping
pub mod Soundness
pub mod Leaving
pub mod UserSteps
