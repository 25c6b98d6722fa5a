pub mod RequestLaws
pub mod Agree
