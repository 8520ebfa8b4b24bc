-- The language: what each statement adds to a draft, what a text means, and what holds of all that are parsed.
pub mod Draft
pub mod Marks
pub mod Sound
pub mod Rooms
pub mod Ranges
pub mod Heads
pub mod Signatures
pub mod Operations
pub mod Statements
pub mod Parsing
pub mod Turns
pub mod Unrolled
pub mod WellRead
pub mod Laws
