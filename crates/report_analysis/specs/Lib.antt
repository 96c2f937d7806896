pub mod Analyses
pub mod Stages
pub mod Texts
pub mod Written
pub mod Numbers
pub mod Later
pub mod Judging
pub mod Claims
