-- What is selected is one thing by the law of program_laws that a call has one outcome.
pub mod SelectedTargets
