-- What the public call promises,
pub mod Planned
-- and how the windows stand on the way.
pub mod Closed
