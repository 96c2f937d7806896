-- A step is one call of `advance`, `raise`, `enter`, .. with `_` for instruction, row and state, found from `refl`.
-- `plainly` takes so many plain instructions at once. A chain of classes is computed (`chain_up`), not found.
-- Programs are functions of the code of `main`: facts on names are proved for any code.
-- What is not there is a test over the classes, by `refl`: `no_subtype`, `none_found`, `only_default`.
-- That linking gives a program is one test of its claims (`are_met`), a second or two for fifty classes.
-- Definitions by which a goal computes are `abbrev`; only `code_is` is closed.
pub mod Runs
pub mod Facts
pub mod Types
pub mod Searches
pub mod CallSteps
pub mod Throws
pub mod WithinStart
pub mod WithinRuns
pub mod WithinArrays
pub mod WithinTests
pub mod WithinCompared
pub mod WithinUnits
pub mod CallStart
pub mod CallRuns
pub mod CallResults
pub mod CallEnds
pub mod CallMore
pub mod CallChoices
pub mod ExceptionRuns
pub mod Initialisers
pub mod InitialiserRuns
pub mod LinkTests
