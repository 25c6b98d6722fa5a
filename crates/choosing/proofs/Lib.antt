pub mod RunLaws
pub mod AnswerLaws
pub mod CallLaws
pub mod Examples
pub mod Agree
