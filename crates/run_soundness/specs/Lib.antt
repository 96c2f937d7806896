pub mod Words
pub mod Truth
pub mod Reports
pub mod Claims
pub mod ClosedFacts
