pub mod Pairs
pub mod Faults
pub mod Checks
pub mod Asked
pub mod Told
pub mod Sound
