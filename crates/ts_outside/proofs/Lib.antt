-- That a count never falls is known only where the model is open: ensure it in the method that opens it.
-- In the walk `let .. else { return .. }` on `pop()` keeps the ghost field; a `match` with `break` loses it.
-- A name is looked for by a `for` with `return`: `any` with a text `==` stayed open.
-- Told calls are joined by `calls_more` alone. `CallsOne` is two clauses, one an outcome: `search` proves who makes one call.
pub mod CalledMore
pub mod HeldLemmas
