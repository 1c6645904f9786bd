pub mod Answering
pub mod Earliest
pub mod Unasked
pub mod Taken
pub mod Usual
