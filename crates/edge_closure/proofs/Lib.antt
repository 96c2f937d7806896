-- It is enough to try what follows from edges to nodes, alone and beside another edge (`Closed`, `Leading`). What follows from an edge and is taken in
-- stays derivable (`Following`). A list that grows keeps what it has (`Lists`).
mod Lists
mod Closed
mod Leading
mod Following
mod Ends
