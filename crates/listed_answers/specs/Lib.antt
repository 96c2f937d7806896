pub mod NodeVariables
pub mod ListedAnswers
