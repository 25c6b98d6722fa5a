pub mod Sizes
pub mod Distinct
pub mod Room
pub mod Longest
