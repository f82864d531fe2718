pub mod Pairs
pub mod Sound
