pub mod Said
pub mod Private
