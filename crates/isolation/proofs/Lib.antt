pub mod Translation
pub mod Agreeing
pub mod Entering
pub mod Execution
pub mod Stepping
pub mod Calling
pub mod Theorem
