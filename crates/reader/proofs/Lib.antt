-- What the proofs of this crate share, and what its callers may cite of rows that were read.
pub mod OneByte
pub mod Others
pub mod Steps
pub mod Behind
pub mod Cursors
pub mod ShortLeaves
pub mod Ending
pub mod Into
pub mod Parts
pub mod Operations
pub mod Noded
pub mod Whole
pub mod Entry
