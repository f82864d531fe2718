pub mod Records
pub mod Bare
pub mod Faults
pub mod Checks
