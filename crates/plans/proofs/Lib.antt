-- In these lemmas t₀ is the first of the d days, which the definitions call k.
-- The lists
pub mod Members
pub mod DayTests
pub mod Assignments
pub mod Listing
-- The theorem: when there is a plan
pub mod Windows
pub mod Room
pub mod Assign
pub mod Counts
pub mod Fitting
pub mod Before
pub mod NeedLeft
pub mod NeedRight
pub mod Exists
-- The replies
pub mod Sets
pub mod Excludes
pub mod Shortage
pub mod Marked
pub mod RunSearch
pub mod Runs
pub mod Replies
-- The narrowing and the first plan
pub mod Close
pub mod Tight
pub mod Ends
pub mod Scan
pub mod Narrowing
pub mod Scanned
pub mod First
pub mod Worked
