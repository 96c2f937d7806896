-- Checks speak of a program of names and kinds alone (`unsorted`), and are carried over once to the sorted one.
-- `Left p whole rest` goes through every loop; `end_front` and `tells_back` carry what parts tell over `++`.
-- An order is owed also where a check fails before the sort: each list has a sorted permutation, by a pure lemma.
-- Files are sorted by the public call, which then hands over: checks know nothing of the order (`IsFileOrder`).
-- Stubs from the start come first, so each list is walked twice with a test; one lemma joins the two halves.
-- `++` is grouped to the left: use `append_assoc` before a lemma on two parts.
pub mod DescribedMembers
pub mod Linkables
pub mod ClaimSteps
pub mod KnownClasses
pub mod Building
pub mod NewNames
pub mod ClassNames
pub mod DistinctNames
pub mod FlatClaims
pub mod OrderedPrograms
pub mod PatchesAlone
pub mod SoundOrigins
pub mod LargeInputs
pub mod LinkSteps
pub mod PatchLists
