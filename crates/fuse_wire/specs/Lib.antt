pub mod Opcodes
pub mod Records
