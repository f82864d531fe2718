-- To be read in this order; the last has the definitions at work.
pub mod Plans
pub mod Runs
pub mod Sets
pub mod Needs
pub mod Replies
pub mod Narrowing
pub mod Tight
pub mod Worked
