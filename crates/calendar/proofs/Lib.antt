mod AsAsked
mod Weekdays
