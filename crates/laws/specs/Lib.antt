pub mod Lists
pub mod Parts
pub mod Refusals
pub mod Text
