pub mod Runs
pub mod Outcomes
pub mod Steps
pub mod Commands
pub mod StatusNumber
pub mod Headline
