-- What a state means, and how its answers read as replies of the ledger.
pub mod Near
pub mod Model
pub mod Answers
pub mod Weights
