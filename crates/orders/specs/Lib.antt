pub mod Records
pub mod Lists
pub mod Tables
