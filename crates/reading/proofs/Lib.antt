mod Cuts
mod Readers
pub mod Lengths
pub mod Decimals
