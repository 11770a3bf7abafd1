pub mod Share
pub mod Law
