pub mod Fields
pub mod Ten
pub mod Wire
pub mod Form
pub mod Cases
