pub mod Judged
mod FirstStages
mod Deriving
