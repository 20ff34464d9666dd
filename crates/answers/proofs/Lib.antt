-- How pieces of a line join, and how many digits a number has.
pub mod Writing
