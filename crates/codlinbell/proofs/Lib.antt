-- The promises as theorems over the definitions, and the laws that join the contracts of loading, judging, placing and running.
pub mod Heaps
pub mod Prepared
pub mod Composed
pub mod Promises
pub mod Determined
pub mod Worked
