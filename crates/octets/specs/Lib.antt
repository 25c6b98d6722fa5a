pub mod Octets
pub mod Put
pub mod Slice
pub mod Private
