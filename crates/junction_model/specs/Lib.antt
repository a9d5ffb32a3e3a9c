pub mod Junction
pub mod Rules
pub mod Covers
pub mod Narrowed
