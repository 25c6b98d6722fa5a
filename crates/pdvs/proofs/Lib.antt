pub mod EndLaws
pub mod DataLaws
pub mod Examples
pub mod Agree
pub mod Back
