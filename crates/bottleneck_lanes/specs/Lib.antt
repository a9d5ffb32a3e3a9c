pub mod Critical
pub mod Tested
pub mod Answer
pub mod SoFar
pub mod Laws
pub mod TestAnswer
pub mod Text
