pub mod Low
pub mod Bytes
pub mod Handed
