-- Every look-up stands on `value_at`, whose clause is that of `get_member`; then each is a `match` without a file.
-- What a value of a document is, is a function of the value: so uniqueness is one line each.
-- `find` over the keys goes over to lists by `find_from_yields_List`; keys are ordered, so the first that passes is the least.
pub mod Lists
pub mod Finding
pub mod Values
pub mod Keys
pub mod OneDocument
