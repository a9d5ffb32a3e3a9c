pub mod TrimmedTrees
