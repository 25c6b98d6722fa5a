pub mod ActionNames
pub mod EventNames
pub mod Actions
pub mod Table
pub mod Sent
