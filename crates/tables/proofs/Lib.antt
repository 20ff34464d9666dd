-- What callers may cite of the lent tables. One who writes rows starts at Written, one who reads them at Operands and Laid, and one who reads
-- codes of kinds at Held.
pub mod Fields
pub mod Placed
pub mod Operands
pub mod Laid
pub mod Written
pub mod Coded
pub mod Held
pub mod Worked
