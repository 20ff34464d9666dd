-- What the functions rest on, and that the machine over rows runs as the definition says.
pub mod Close
pub mod Continuations
pub mod Advances
pub mod Others
pub mod Settled
pub mod Looks
pub mod OnePart
pub mod Listed
pub mod Fitting
pub mod Does
pub mod Follows
pub mod NextStep
pub mod RunSteps
pub mod RowWalk
pub mod NeverGoes
pub mod Onward
