pub mod Title
pub mod Own
pub mod Meaning
pub mod Answer
