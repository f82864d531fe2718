pub mod Faults
pub mod Header
pub mod Told
pub mod Texts
