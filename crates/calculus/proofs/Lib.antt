-- What is proved of CoreChkC's definitions, from the ground up; Blameless is where a reader of demand 3 starts, Accepted and Refused
-- where one of demand 2's typing does.
pub mod Apart
pub mod Decoding
pub mod Same
pub mod Scope
pub mod Literals
pub mod Zeroed
pub mod Growth
pub mod Accepted
pub mod Refused
pub mod Every
pub mod Changes
pub mod NoBlock
pub mod Contexts
pub mod Counted
pub mod Limits
pub mod Substitution
pub mod Blame
pub mod Blameless
