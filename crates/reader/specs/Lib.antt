-- Models of the code: what the reader of expressions answers, and what the lent rows then hold.
pub mod Told
-- Models of the code: what crosses the recursive call as one number, with the proof that two of these numbers come back, and the expression
-- as it goes into rows.
pub mod Cursors
pub mod Packing
pub mod Reads
