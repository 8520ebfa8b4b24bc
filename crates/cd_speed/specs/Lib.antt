-- The files of definitions.
pub mod Timed
pub mod Turned
pub mod Grouped
