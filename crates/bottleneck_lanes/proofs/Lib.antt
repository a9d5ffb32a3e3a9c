pub mod Members
pub mod ArrivingLanes
pub mod Needs
pub mod Multiples
pub mod Tests
pub mod Steps
pub mod TrimmedTrees
pub mod NoFloat
