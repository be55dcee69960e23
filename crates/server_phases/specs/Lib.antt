pub mod Answering
pub mod Asking
pub mod Gathering
pub mod Waiting
