pub mod NameLaws
pub mod Examples
pub mod Agree
