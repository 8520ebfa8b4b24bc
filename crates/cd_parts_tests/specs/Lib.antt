-- What the tests run on, and what their helpers promise.
-- the words that operations run on
pub mod OneRegion
-- a machine that is ready for any call
pub mod Trials
-- turns of a pass that ends as it began
pub mod Turns
