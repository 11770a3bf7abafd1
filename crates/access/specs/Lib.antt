pub mod Accesses
pub mod Opening
