pub mod Scripts
pub mod Images
