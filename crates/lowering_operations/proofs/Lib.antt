-- `IsOperation`: for each row that the constant pool allows, and each base that fits. No function makes a row.
-- That there is a row comes once, from the effect of the instruction (`has_row`, `has_operation`).
-- Units of a descriptor are `AreUnitsOf`: for all units that it has, these are they.
-- A static call's target is the resolved method, since both are what the reference resolves to.
-- A choice by an action is a function with a definition of the same name (`call_kind`, `resolved_method`): no file.
pub mod ArrayOperations
mod CallOperations
pub mod ConstantOperations
pub mod FieldOperations
pub mod Lifting
pub mod MovesMade
pub mod Named
pub mod RowFacts
mod UnitsMade
