pub mod Answers
pub mod Ends
pub mod Output
pub mod ReadingOrder
pub mod Numbers
