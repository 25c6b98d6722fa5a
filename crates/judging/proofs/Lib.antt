pub mod Examples
pub mod KindLaws
pub mod Agree
