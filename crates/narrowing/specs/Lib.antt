-- What the public calls promise,
pub mod Verdict
pub mod Narrow
pub mod Support
pub mod Laws
-- and the tables of the verdict and of the narrowing.
pub mod Counting
pub mod Weighing
pub mod Scanning
pub mod Tight
