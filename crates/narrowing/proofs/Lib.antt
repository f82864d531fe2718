-- Lists that loops write
pub mod Writes
pub mod Parts
-- The counts of runs, and the overfull run
pub mod Windows
pub mod Overfull
pub mod Marking
-- The need from the left, and the marks of a shortage
pub mod Grow
pub mod Missing
-- The checks and the verdict
pub mod Weighed
pub mod Replies
pub mod Judged
pub mod Accepted
-- The need from the right, tight runs, and the narrowing
pub mod Backward
pub mod TightEnds
pub mod ScanSteps
pub mod Placing
pub mod Scanned
pub mod Meaning
-- The support question
pub mod Closing
