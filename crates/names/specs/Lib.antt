pub mod Name
pub mod Private
