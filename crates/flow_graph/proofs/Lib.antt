-- What is noted of a mark only becomes true: facts are stated at the end, and no invariant speaks of states of the walk.
-- The index of handlers is made by pushes, left half, middle, right half, and never changed: no proof of a write in a slice.
-- `IsTree` has two constructors whose indices are variables; what a search leaves out is an equation with `[]`.
-- Catching twice is catching once, and changes at offsets may be swapped (Catching.antt): so handlers met before do not count.
-- Levels of handlers: what all list at an offset goes down with offset / 2; no numbers of nodes, no power of two.
-- A recursion over slices: the answer of its call's `requires` is a pair, the measure by `search rules` first.
pub mod Awaiting
pub mod Catching
pub mod Described
pub mod DescriptorUnits
pub mod Effects
pub mod EffectsBy
pub mod FlowOf
pub mod FlowReached
pub mod Flowing
pub mod Growth
pub mod HandlerPlaces
pub mod HandlerTrees
pub mod InOrder
pub mod Loops
pub mod MemberUses
pub mod Numbers
pub mod OneGraph
pub mod ReadHandlers
pub mod ReadParts
pub mod ReadPlaces
pub mod ReadRows
pub mod Rows
pub mod Sets
pub mod SpelledKinds
pub mod Stepping
pub mod Told
pub mod UncaughtLevels
pub mod Walked
pub mod WalkedFlows
pub mod WholeFlow
