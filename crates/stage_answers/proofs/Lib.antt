-- A transfer looks up variables at one node alone: with those of that node at each node it is the same there, by computing (`Here.antt`). Such settings are
-- one where the answers are, slot by slot; so transfers agree at each node, and rules of edges by agreeing transfers conclude the same (`Agreeing.antt`).
-- Edges are of methods that may run, which the rules keep; so a list of these methods has the edges of the whole supplier (`Running.antt`).
pub mod Here
pub mod Agreeing
pub mod OneSetting
pub mod Running
pub mod Listed
