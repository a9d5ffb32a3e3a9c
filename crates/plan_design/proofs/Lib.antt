mod NodeRanges
mod StretchedTargets
mod StoppedTrees
mod OwnLean
mod IsShown
mod Ranges
mod PassedPlans
mod IsDesign
