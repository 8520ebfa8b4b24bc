-- Sums over views, counts of ids, the words of the table, what a step leaves of each pass, and each kind of step.
pub mod Sums
pub mod Counting
pub mod TableWords
pub mod Changing
pub mod Stepping
pub mod Controls
pub mod Taking
pub mod Filling
pub mod Parting
pub mod Searching
pub mod StoreNumbers
pub mod Held
pub mod Worked
pub mod Showing
