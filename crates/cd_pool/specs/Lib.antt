-- What a deque refuses; what a worker is given and hands back; what an engine counts.
pub mod Hinting
pub mod Working
pub mod Counts
