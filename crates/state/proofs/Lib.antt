-- The horizon and the held orders
pub mod Slots
pub mod Horizon
pub mod Nearness
-- The checks and the weighing
pub mod Passing
pub mod Weighing
pub mod Refusing
pub mod Judging
-- The answers
pub mod Settling
pub mod Asking
pub mod Planning
pub mod Writing
