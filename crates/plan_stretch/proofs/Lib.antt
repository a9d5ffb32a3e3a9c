mod StretchLaw
mod RoomBelow
