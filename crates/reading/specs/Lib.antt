pub mod Pieces
pub mod Numbers
pub mod Steps
pub mod Words
pub mod Told
pub mod Results
