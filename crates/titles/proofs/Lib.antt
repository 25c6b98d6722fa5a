pub mod TitleLaws
pub mod TrimLaws
pub mod OwnLaws
pub mod Meaning
pub mod Examples
pub mod Agree
