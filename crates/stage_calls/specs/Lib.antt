pub mod Testing
pub mod Units
pub mod Events
