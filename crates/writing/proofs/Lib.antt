pub mod FormLaws
pub mod TenLaws
pub mod DataLaws
pub mod Agree
pub mod Case3
pub mod Examples
pub mod Many
