-- Models of the code: what each function gives, with lists in the place of lent memory.
pub mod Yields
pub mod Malloc
