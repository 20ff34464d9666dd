-- What the machine's functions and its simulation rest on.
pub mod Memory
pub mod Arms
pub mod Fill
pub mod Stack
pub mod Codes
pub mod Ready
pub mod Transitions
pub mod Simulation
pub mod Beyond
pub mod Slow
