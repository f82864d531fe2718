-- The checks and the answer of a narrowing
pub mod Passing
pub mod Accepting
-- Closing place by place
pub mod Narrower
pub mod Steps
pub mod Turns
-- The answer
pub mod Answered
