pub mod Curve
pub mod Lines
pub mod Judged
pub mod Laws
