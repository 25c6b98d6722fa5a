pub mod BitLaws
pub mod SetLaws
pub mod SeenLaws
pub mod Examples
pub mod Agree
