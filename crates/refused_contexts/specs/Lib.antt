pub mod Untested
