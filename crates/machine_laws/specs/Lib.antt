pub mod Survival
pub mod Progress
pub mod NodeSurvival
pub mod NodeProgress
