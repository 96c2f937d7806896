pub mod StepRows
pub mod Alike
