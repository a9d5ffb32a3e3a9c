pub mod Draws
pub mod Parts
pub mod Conflicts
pub mod Sample
