pub mod Tracked
pub mod Verdicts
pub mod AllFacts
pub mod Reports
pub mod Traces
