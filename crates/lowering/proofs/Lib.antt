-- `IsMethodCode` is all that is known of a body of plain references; an `ensures` writes it as `body.entry`.
-- A refusal is made where its reason is found (`refused_at`): a failure matched later speaks of a projection.
-- Walks go by the number of the step: `AllZip` over `take i steps`, and the first reason is one recursion (Walks.antt).
-- What a resolved row keeps of the opcode's row is by cases on the action; `ldc` of a number alone has another action.
-- Both clauses of `lower_method` are read off one record a node, which says its order too (`IsInOrder`).
-- Crates above name `MethodCode` by MethodParts.antt.
pub mod SmallOperands
pub mod CodeFacts
pub mod Judged
pub mod NamedMembers
pub mod Walks
pub mod MemberOwners
pub mod MadeClasses
pub mod StaticOwners
pub mod StepPlaces
pub mod NodesMade
pub mod Answered
pub mod OwnCode
pub mod MethodParts
