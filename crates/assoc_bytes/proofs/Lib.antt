pub mod LowLaws
pub mod BytesLaws
pub mod HandedLaws
pub mod Examples
pub mod Agree
