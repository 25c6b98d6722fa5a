pub mod Record
pub mod Refusals
pub mod Events
pub mod Performing
pub mod Machine
pub mod Calls
