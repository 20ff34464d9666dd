-- To be believed: heaps of words, when two kinds are the same, a kind as one number, the lowest free run, and a heap in lent numbers (with
-- what the code's accessors of lent numbers answer).
pub mod Same
pub mod Heap
pub mod Code
pub mod Free
pub mod Lent
