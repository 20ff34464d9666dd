-- What the proofs of this crate share, and what its callers want to know of a number that was read.
pub mod Reach
pub mod Turns
pub mod Laws
