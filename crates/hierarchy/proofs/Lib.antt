-- A walk up is `first_upward` or `fold_upward`: what is left is a lemma for a step and an induction over the chain.
-- Inductions go from the optional name on (`IsChain p start`), so there is no case on the superclass.
-- `least_join` puts the least of some in the place of all: it serves the loop over interfaces and the chain.
-- `Finds Q` and `IsLeast Q` take plain numbers; the option is of a typed one, so contracts stay short.
-- Casts: the two names left fit where the first two do (`StandFor`); steps are by cases on `Fits`.
pub mod ClassPlaces
pub mod Packages
pub mod Chains
pub mod Walks
pub mod Declaring
pub mod Inheriting
pub mod Selecting
pub mod Hiding
pub mod FoundIn
pub mod Specific
pub mod LeastMethods
pub mod Resolving
pub mod FieldWalks
pub mod ClassNames
pub mod FitSteps
