-- To be believed: an answer, its reading, its six numbers, and its line.
pub mod Answer
pub mod Readings
pub mod Out
pub mod Line
-- Models of the code: how bytes are written.
pub mod Written
