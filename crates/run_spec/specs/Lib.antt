pub mod Inputs
pub mod Lines
pub mod Outcomes
pub mod Statuses
pub mod RunSubjects
pub mod WholeInputs
