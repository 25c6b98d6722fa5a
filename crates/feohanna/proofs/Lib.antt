mod FreshLaws
mod TitlesLaws
pub mod TitleNumbers
pub mod Agree
