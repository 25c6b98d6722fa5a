pub mod Or
pub mod Grid
pub mod Unfolded
pub mod Right
pub mod Columns
pub mod Agree
