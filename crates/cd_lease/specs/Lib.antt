-- The files of definitions, in the order in which to read them.
pub mod Control
pub mod Views
pub mod Rule
pub mod Seats
pub mod Steps
pub mod Trying
pub mod Stores
pub mod Passes
pub mod IdProps
pub mod Leases
pub mod Laws
