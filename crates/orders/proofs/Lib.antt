-- The place of a number
pub mod Places
-- Orders in ascending order of number
pub mod Sorted
-- Orders entered, changed and removed, and how the array is turned for it
pub mod Edits
pub mod Turns
-- The orders that leave, and those that stay
pub mod Parting
-- The windows that are told
pub mod Telling
-- A table and its lists
pub mod Tables
