-- What the tokens of a text mean: lines and blocks, numbers, names, kinds, and what is wrong with them; and how places and kinds
-- are written as tokens.
pub mod Wrongs
pub mod Lines
pub mod Blocks
pub mod Sums
pub mod Steps
pub mod Layouts
pub mod Cuts
pub mod Quick
pub mod Names
pub mod Kinds
pub mod Written
