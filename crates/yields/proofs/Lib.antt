-- What the functions rest on, and that what nodes give is what the definition's redexes give.
pub mod Zeros
pub mod Numbers
pub mod GivesAs
pub mod Zeroed
