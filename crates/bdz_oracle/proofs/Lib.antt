mod Answers
mod Exporting
pub mod OneAnswer
pub mod OneTold
mod Telling
pub mod ToldLaws
