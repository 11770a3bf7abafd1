pub mod Comparisons
pub mod Isolated
pub mod Sides
