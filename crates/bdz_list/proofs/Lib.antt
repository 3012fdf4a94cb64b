pub mod Counts
pub mod Exact
pub mod Numbers
pub mod OneAnswer
pub mod Reading
pub mod Records
pub mod ToldLaws
