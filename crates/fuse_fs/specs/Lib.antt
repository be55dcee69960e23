pub mod Answers
pub mod Calls
pub mod Lacked
pub mod Lengths
pub mod Replies
pub mod Serializing
pub mod Times
pub mod Transfers
