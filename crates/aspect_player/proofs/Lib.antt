pub mod Choice
pub mod ByPhase
pub mod Timetable
pub mod Safety
mod Countdown
pub mod Written
mod Playing
