pub mod Kinds
pub mod Meaning
pub mod Said
pub mod Sent
pub mod Private
