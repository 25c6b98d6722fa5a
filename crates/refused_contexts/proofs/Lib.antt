pub mod Joined
pub mod Untested
