-- Everything follows from the program and not from a walk: a class has one member of a signature (`MembersDiffer`).
-- One order: ascending lists that hold each item equally often are equal (Orders.antt); no permutation is taken apart.
-- Alike programs meet the same flat claims (FirstUnmet.antt), so a refusal is that of the list of claims.
-- The rank of a name is how many names are above it: chains and searches recur below a limit, with no order of classes.
-- A name that no class has begins no chain: laws of calls ask for no class.
pub mod ArrayNames
pub mod Calls
pub mod Chains
pub mod Choices
pub mod ClassOrders
pub mod Decided
pub mod Defaults
pub mod FieldSearch
pub mod FirstUnmet
pub mod Links
pub mod Members
pub mod NameClaims
pub mod Orders
pub mod Outcomes
pub mod Paths
pub mod Signed
pub mod SpecialCalls
pub mod Bounded
pub mod Classes
pub mod Ranks
pub mod Declaring
pub mod Inheriting
pub mod Resolving
pub mod FieldSearches
pub mod Targets
pub mod SpecialTargets
pub mod Choosing
pub mod CallOutcomes
