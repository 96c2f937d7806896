-- Read Order and KeyOrders first: the order of paths. Then SetMembers: two sets with the same paths are one. Cuts: to cut at each step is to
-- cut at the end.
pub mod Order
pub mod KeyOrders
pub mod SetMembers
pub mod Cuts
pub mod Places
pub mod Gaining
