-- What follows from edges is two lists: from one edge, and from two (`Conclusions`). A rule concludes each of them (`Sound`), and nothing else
-- (`Complete`), in any program whose handlers take all, whose described methods only return, and which has no initialisers (`Nodes`). So tests say
-- that a list is closed (`Closed`), and that each edge follows from those before it (`Listing`). They are met by computing.
pub mod Equal
pub mod Nodes
pub mod Conclusions
pub mod Complete
pub mod Closed
pub mod Sound
pub mod Listing
pub mod ReadingListing
pub mod ThrowingListing
