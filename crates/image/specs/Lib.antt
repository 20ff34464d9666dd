-- To be believed, in the order of "The image": what it holds, how parts are read one after another, the tables, the cells, the expression,
-- and the whole.
pub mod Content
pub mod Parsing
pub mod Tables
pub mod Cells
pub mod Nodes
pub mod Image
-- Models of the code: how the content stands in lent tables of numbers, what can be said of it, and what the readers answer and leave in those
-- tables.
pub mod Tabled
pub mod Shape
pub mod Answers
pub mod Filled
pub mod Tabling
pub mod Filling
pub mod Loaded
