-- In reading order: where a domain can be, lists of domains, the states that the rule is about, what views list, the rule; then what
-- each kind of step tells, where a seat is, and the laws.
pub mod Places
pub mod Asks
pub mod Listing
pub mod Kinds
pub mod Views
pub mod Rule
pub mod Steps
pub mod Seats
pub mod Laws
-- the states of domains
pub mod States
-- what a pass has in hand, and what an arrival comes to
pub mod Hands
pub mod Gathering
pub mod Arrivals
pub mod Passes
pub mod Working
