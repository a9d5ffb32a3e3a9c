pub mod Cells
pub mod Rows
pub mod PairOrder
pub mod PairNumbers
pub mod FreePairs
pub mod OneTable
