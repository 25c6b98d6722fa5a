pub mod CopyLaws
pub mod NewLaws
pub mod GatherLaws
pub mod ReceivedLaws
pub mod Opened
pub mod Ways
pub mod HearLaws
pub mod Agree
