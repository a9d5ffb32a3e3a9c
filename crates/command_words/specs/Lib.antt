pub mod Number
pub mod Multiple
pub mod Options
pub mod OptionsOf
pub mod Words
pub mod CommandOf
pub mod SearchOf
pub mod InRange
