-- What the contracts of this crate cite. To read first: CommandLine.
pub mod CommandLine
pub mod Line
pub mod Parses
