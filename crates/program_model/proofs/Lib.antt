-- Bridges.antt leads from numbers to names: prove orders and cycles of numbers, and use it last.
-- A lemma on fields is carried to the value by one `subst` over the whole statement (Accessing.antt).
-- Keys and places of members are two independent facts (`TellEach`); methods and fields share all lemmas.
-- A new kind of member is an `impl` of `MemberKind`; the lemmas are over any list of declarations.
pub mod Ordered
pub mod Bridges
pub mod Ranking
pub mod Pieces
pub mod Declared
pub mod DeclaredMembers
pub mod MembersTold
pub mod MemberPlaces
pub mod Accessing
pub mod MemberUses
pub mod Roots
pub mod SoundMembers
pub mod OneFile
pub mod SoundBodies
pub mod Assembled
pub mod SearchOrders
