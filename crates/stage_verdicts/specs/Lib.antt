pub mod LaterVerdicts
pub mod TraceTexts
