-- To be believed, in the order of "Typing", "Steps" and "How a run ends": what a node does by its code, what a script is judged and run in,
-- expressions, when a literal is well typed, the rules, the judge, steps, runs, and the numbers of answers; then what the promises say with
-- it: what is reached, the first node to fail, the count of steps, two limits, and good ends.
pub mod Operations
pub mod Setting
pub mod Expr
pub mod Literal
pub mod Typing
pub mod Judge
pub mod Steps
pub mod Run
pub mod Answers
pub mod Reach
pub mod FirstFault
pub mod Counts
pub mod Limits
pub mod GoodEnd
-- Models of the code: the refusal that a number's lack is.
pub mod Unread
