pub mod Data
pub mod Private
