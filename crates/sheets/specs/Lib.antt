pub mod Contexts
pub mod Sheet
pub mod Record
pub mod Private
