pub mod MethodViews
pub mod PlainLines
pub mod ReportLines
