pub mod List
pub mod Steps
pub mod Tally
pub mod Written
