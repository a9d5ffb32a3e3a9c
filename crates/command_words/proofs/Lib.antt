mod Numeral
mod LowestTerms
mod Slash
mod NoForm
