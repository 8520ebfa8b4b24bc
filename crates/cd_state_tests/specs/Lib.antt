-- What the tests run on, and what their helpers promise.
-- a domain of four words, and the tries of it
pub mod Sample
-- a board of words that a pass keeps
pub mod Board
-- a program of that domain alone
pub mod Ends
-- programs of groups, turn by turn and by whole engines
pub mod Groups
-- passes at a small table
pub mod Claims
