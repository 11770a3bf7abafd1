pub mod Flats
pub mod Splits
