pub mod Blocks
pub mod Closing
pub mod Loads
pub mod Laws
pub mod Texts
