pub mod Questions
pub mod AtStart
pub mod Known
pub mod Views
pub mod Others
