-- To be believed, in the order of "Numbers in the image": the widths, and how a number is read.
pub mod Width
pub mod Reading
