mod Apart
pub mod Words
pub mod Legal
pub mod ByRows
