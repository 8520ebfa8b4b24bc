-- How a domain is taken to its end, turn by turn.
pub mod Onward
