-- The files of definitions: what operations do to a machine, and the words of the tests.
pub mod Computing
