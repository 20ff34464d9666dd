-- Models of the code: when the judge's answer is the definition's, and what its contract says. The models below stand in that contract only to
-- say what the code leaves in the lent lists; that they mean the definitions is proved.
pub mod Premises
pub mod Script
-- Models of the code: each function's over lists.
pub mod Rows
pub mod Addresses
pub mod Marks
pub mod Literals
pub mod Parts
pub mod Rules
pub mod Nodes
