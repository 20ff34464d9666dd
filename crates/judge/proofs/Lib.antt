-- What callers may cite of the judge.
pub mod Lists
pub mod Arms
pub mod Room
pub mod Turns
pub mod HeldTables
pub mod AddressLaws
pub mod Shapes
pub mod Spans
pub mod Entries
pub mod MarkLaws
pub mod ReachLaws
pub mod LookLaws
pub mod QueueLaws
pub mod PassLaws
pub mod RuleLaws
pub mod NodeLaws
pub mod Right
