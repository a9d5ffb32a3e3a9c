pub mod Runs
pub mod Schedule
pub mod Changes
pub mod Laws
pub mod Heads
pub mod Requests
pub mod Changer
pub mod Planned
