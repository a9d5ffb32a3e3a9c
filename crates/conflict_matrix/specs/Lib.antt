pub mod Links
pub mod Matrix
pub mod Pairs
pub mod PairLaws
pub mod Entries
pub mod Filling
pub mod Numbering
pub mod Conflicts
