pub mod Contents
pub mod Private
