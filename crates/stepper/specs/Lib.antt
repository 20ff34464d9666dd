-- Models of the code: what the contract of `run` says of a script, and when it says it.
pub mod Ready
pub mod Entry
-- Models of the code: what each function does, with lists in the place of lent memory; and the machine over rows, with lists of cells.
pub mod Moves
pub mod States
pub mod Nodes
pub mod Malloc
pub mod Stack
pub mod Turns
