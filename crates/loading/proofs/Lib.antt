pub mod Places
pub mod Turns
pub mod Accounts
pub mod Files
