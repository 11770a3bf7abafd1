pub mod Words
pub mod Lines
pub mod Numbers
pub mod Arguments
pub mod Commands
