-- To be believed: the answer to an image over a lent heap, what a host in another language finds, what the runner prints, what is promised
-- of all that, and the worked images.
pub mod Answered
pub mod Hosted
pub mod Printed
pub mod Promised
pub mod WorkedImages
-- Models of the code: how cells are placed, and when lent tables hold the content of an image.
pub mod Placing
pub mod Prepared
