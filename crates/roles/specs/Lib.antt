pub mod Role
pub mod Sheet
pub mod Record
pub mod Private
