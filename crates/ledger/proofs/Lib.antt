-- The lists and the days
pub mod Orders
pub mod Days
-- What a call is checked for, and weighed by
pub mod Checks
pub mod Weighing
-- What a call leaves, does and tells
pub mod Turning
pub mod Keeping
pub mod Accounts
pub mod Telling
-- The whole
pub mod Lives
pub mod Law
pub mod Worked
