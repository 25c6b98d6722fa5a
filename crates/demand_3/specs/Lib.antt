pub mod Calls
pub mod Every
pub mod Refused
pub mod Data
pub mod ShutOut
pub mod Surface
