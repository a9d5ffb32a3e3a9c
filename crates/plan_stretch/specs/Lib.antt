pub mod Stretch
pub mod StretchLaw
pub mod RoomBelow
