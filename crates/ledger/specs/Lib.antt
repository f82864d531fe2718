-- To be read in this order; the last has the definitions at work.
pub mod Orders
pub mod Ledger
pub mod Calls
pub mod Replies
pub mod Lives
pub mod Histories
pub mod Law
pub mod Worked
