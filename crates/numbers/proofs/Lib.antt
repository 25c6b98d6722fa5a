pub mod NumberLaws
pub mod Agree
