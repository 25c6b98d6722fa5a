pub mod Cells
pub mod Gather
pub mod ShutOut
pub mod Sent
pub mod Empty
