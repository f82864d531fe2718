mod Pairings
mod Marks
