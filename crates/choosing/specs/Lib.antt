pub mod Choice
pub mod Call
pub mod Private
