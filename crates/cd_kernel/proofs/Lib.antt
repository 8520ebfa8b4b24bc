pub mod Written
pub mod Sums
pub mod Steady
pub mod Turns
pub mod Runs
pub mod Rows
