pub mod Window
pub mod Host
pub mod Listen
