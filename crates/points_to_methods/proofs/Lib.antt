-- Inner functions speak of the name table; one lemma a group turns that into the relations of the definitions.
-- A group ensures one record of what is added, a numbering `GrowsTo`: loops and joins are three lemmas.
-- A node adds one call at most (`AddsCallOf`): parts are summed by two lemmas, one for each side without a call.
-- In a `match` each arm returns its call's result; with `_` the facts `.not-V` say what the operation is not.
-- What a trigger starts is one equivalence (`started`), for found and not found alike.
pub mod FoundMoves
pub mod NamedSlots
pub mod EnteredSlots
pub mod AccessedSlots
pub mod MadeArrays
pub mod OperationItems
pub mod LandedNodes
pub mod RaisedObjects
pub mod EntryLists
pub mod NumberedSites
pub mod SelectedSites
pub mod NumberedCalls
pub mod NodeSums
pub mod NodesTaken
pub mod StartedInitialisers
pub mod BegunFields
