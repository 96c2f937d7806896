-- Each order is total, and tells apart what differs. A length is a sum, by that of two texts.
pub mod LineOrders
pub mod Lengths
