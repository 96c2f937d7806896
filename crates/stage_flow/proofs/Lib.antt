-- Read Lists first: lists as what each element gives. Gathered has what loops gather; OneVariable and Doubled, that the code's tests of roots and
-- paths are those of the definitions; Made, that its changes are; and Drafted, that a draft is that of the changed tuple. StoredPaths, LostByStores
-- and StoreDrafted say the same of stores, whose sets are changed twice. Thrown, Answered and Allocated lead to the definitions' cases.
pub mod Lists
pub mod Gathered
pub mod OneVariable
pub mod Doubled
pub mod Made
pub mod Drafted
pub mod StoredPaths
pub mod LostByStores
pub mod StoreDrafted
pub mod Thrown
pub mod Answered
pub mod Allocated
