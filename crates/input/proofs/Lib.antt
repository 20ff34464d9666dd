-- What is in front of the bytes after a read, and that known bytes determine what is read.
pub mod Reading
pub mod Determined
