pub mod Bits
pub mod Fields
pub mod UniqueProof
