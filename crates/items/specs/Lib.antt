pub mod Private
pub mod Items
pub mod Wire
pub mod Steps
