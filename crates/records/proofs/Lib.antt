pub mod Within
pub mod ReadBack
