-- Proofs of this crate alone rest on this module.
-- What keys of ends stand for. A key names a fact by its row in a pool.
use Rattle.std.specs.Prelude.{◌≡◌, ℕ, List, Some, map, slice_get}
use Rattle.stage_facts.specs.Facts.{SiteFact}
use Rattle.fact_rows.specs.FactRows.{IsFactRow}
use Rattle.end_numbers.specs.declared.key.EndKey.{EndKey}
use Rattle.end_numbers.specs.Ends.{end, End}
use Rattle.end_numbers.specs.KeyRows.{AreKeyRows, keys_from}
use Rattle.end_numbers.specs.RowFacts.{row_fact}

-- The end of a key.
abbrev pub key_end : (facts : List (List ℕ)) → EndKey → End
key_end facts key = end key.method key.spot (row_fact facts key.fact)

-- The ends of keys, in their order.
unfoldable pub ends_from : (facts : List (List ℕ)) → List EndKey → List End
ends_from facts keys = map (key_end facts) keys

-- The row is that of a fact.
abbrev pub HasFact : (facts : List (List ℕ)) → ℕ → Type 0
HasFact facts row = (fact : SiteFact) × IsFactRow facts row fact

-- The row of each key is that of a fact.
abbrev pub HaveFacts : (facts : List (List ℕ)) → List EndKey → Type 0
HaveFacts facts keys = (number : ℕ) (key : EndKey) → slice_get keys number ≡ Some key → HasFact facts key.fact

-- Each row is that of a key, which names a fact.
pub record AreEndRows (facts rows : List (List ℕ)) : Type 0 where
  pub keys : AreKeyRows rows
  pub have : HaveFacts facts (keys_from rows)
