pub mod Loop
pub mod LoopSteps
pub mod Reports
