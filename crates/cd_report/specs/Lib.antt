-- The texts that the program writes.
pub mod Texts
pub mod Records
pub mod Reports
