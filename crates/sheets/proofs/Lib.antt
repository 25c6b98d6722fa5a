pub mod RecordLaws
pub mod RunLaws
pub mod GoodLaws
pub mod Inverse
pub mod Agree
pub mod Examples
