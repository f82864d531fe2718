pub mod Places
pub mod Checked
pub mod Windows
pub mod Copying
