pub mod Associate
pub mod Values
pub mod Data
pub mod Private
