pub mod RefusalLaws
pub mod OrderLaws
pub mod PerformingLaws
pub mod Examples
pub mod Agree
