-- What callers may cite of cells.
pub mod Codes
pub mod Heaps
pub mod Free
pub mod Words
pub mod View
