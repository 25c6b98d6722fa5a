pub mod OctetLaws
pub mod PutLaws
pub mod SliceLaws
pub mod Examples
pub mod Agree
