-- Failures are joined by one lemma for two of them, and for lists by one more (`Leasts`). What follows from an edge is told apart by conditions: lists of it
-- hold for each fact with which the method is entered, so one is taken with which nothing else begins (`ByCondition`, `Uniform`). An edge that leads to no
-- node asks for nothing (`Leading`); of one that leads to a node all is asked by three parts (`Joins`). Edges that meet all parts are closed (`Closed`).
-- Searches by halving answer by the order of edges (`Searches`).
pub mod Leasts
pub mod ByCondition
pub mod Uniform
pub mod Searches
pub mod Leading
pub mod Joins
pub mod Closed
