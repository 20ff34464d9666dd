-- Models of the code: what the contract of `run` says of a script, and of which memory and terms.
pub mod Ready
pub mod Entry
-- Models of the code: they settle every number of the answer and of the lent memory; what is said of a script rests on none.
pub mod Rows
pub mod States
pub mod Redexes
pub mod Malloc
pub mod Nodes
pub mod Values
pub mod Turns
