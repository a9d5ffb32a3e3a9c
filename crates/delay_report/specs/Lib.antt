pub mod WideRatio
pub mod Delay
pub mod Term
pub mod DelayLaw
