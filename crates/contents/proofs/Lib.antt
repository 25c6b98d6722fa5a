pub mod IdLaws
pub mod StageLaws
pub mod OrderLaws
pub mod Meaning
pub mod GoodLaws
pub mod Agree
pub mod Examples
