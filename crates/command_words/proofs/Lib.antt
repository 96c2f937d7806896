-- `app_of command` is the definition by the builders' clauses alone; rules of options follow from tests that compute.
-- Two functions alone speak of the parser's words, and their answers are whole terms: no search may unfold the parser.
pub mod Digits
pub mod Ranges
pub mod OptionRules
pub mod Parsing
pub mod Asking
