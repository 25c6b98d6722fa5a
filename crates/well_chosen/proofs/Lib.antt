pub mod Meaning
pub mod Written
pub mod Answering
