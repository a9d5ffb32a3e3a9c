pub mod Aspect
pub mod Timetable
pub mod Safe
pub mod Counts
pub mod Phases
pub mod Player
pub mod Lines
pub mod Written
