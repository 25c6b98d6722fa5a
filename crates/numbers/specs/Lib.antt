pub mod Refusals
pub mod Kinds
pub mod Lengths
pub mod Results
