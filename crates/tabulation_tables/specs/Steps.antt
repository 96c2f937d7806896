-- Public contracts rest on this module.
-- How tables grow.
use Rattle.std.specs.Prelude.{◌≡◌, ◌⊎◌, ℕ, Bool, true, false, [], length, map, Option, Some, slice_get}
use Rattle.chained_lists.specs.Entries.{IsFront}
use Rattle.end_numbers.specs.Ends.{End}
use Rattle.edge_numbers.specs.declared.because.EdgeNo.{EdgeNo}
use Rattle.edge_numbers.specs.declared.numbered.NumberedEdge.{NumberedEdge}
use Rattle.tabulation_tables.specs.Lists.{Calls, Exits, HasEdge, IsLead, IsVisited, Leads, Lists, found_by}

-- All that was there is there, at its place.
pub record Grows (old new : Lists) : Type 0 where
  pub ends : (n : ℕ) (e : End) → slice_get old.ends n ≡ Some e → slice_get new.ends n ≡ Some e
  pub edges : (k : ℕ) (e : NumberedEdge) → slice_get old.edges k ≡ Some e → slice_get new.edges k ≡ Some e
  pub begins : IsFront old.begins new.begins
  pub leads : IsFront old.leads new.leads
  pub by : (j : ℕ) (exit : Option EdgeNo) → slice_get old.by j ≡ Some exit → slice_get new.by j ≡ Some exit
  pub callers : IsFront old.callers new.callers
  pub exits : IsFront old.exits new.exits
  pub visits : (x : ℕ) → IsVisited old x → IsVisited new x

-- Of edges, leads, callers, exits and visits only these were added. Each edge is found by its end as before, and there are as many reasons as edges, and as
-- many notes of leads as leads, if there were.
pub record Adds (NewEdge : ℕ → ℕ → Type 0) (NewLead : ℕ → ℕ → Option EdgeNo → Type 0) (NewCall NewExit : ℕ → ℕ → Type 0) (NewVisit : ℕ → Type 0) (old new : Lists) : Type 0 where
  pub edges : (b x : ℕ) → HasEdge new b x → HasEdge old b x ⊎ NewEdge b x
  pub found : old.begins ≡ map found_by old.edges → new.begins ≡ map found_by new.edges
  pub reasoned : length old.reasons ≡ length old.edges → length new.reasons ≡ length new.edges
  pub leads : (x y : ℕ) → Leads new x y → Leads old x y ⊎ ((exit : Option EdgeNo) × NewLead x y exit)
  pub led : length old.by ≡ length old.leads → (x y : ℕ) (exit : Option EdgeNo) → IsLead new x y exit → IsLead old x y exit ⊎ NewLead x y exit
  pub noted : length old.by ≡ length old.leads → length new.by ≡ length new.leads
  pub callers : (b c : ℕ) → Calls new b c → Calls old b c ⊎ NewCall b c
  pub exits : (b k : ℕ) → Exits new b k → Exits old b k ⊎ NewExit b k
  pub visits : (x : ℕ) → IsVisited new x → IsVisited old x ⊎ NewVisit x

-- No caller and no exit is noted.
pub record CallsStay (old new : Lists) : Type 0 where
  pub callers : new.callers ≡ old.callers
  pub exits : new.exits ≡ old.exits

-- Nor is a lead.
pub record NotesStay (old new : Lists) : Type 0 where
  pub leads : new.leads ≡ old.leads
  pub by : new.by ≡ old.by
  pub calls : CallsStay old new

-- None, and no pair.
abbrev pub None1 : ℕ → Type 0
None1 x = ⊥

abbrev pub None2 : ℕ → ℕ → Type 0
None2 x y = ⊥

abbrev pub IsOnly : ℕ → ℕ → Type 0
IsOnly a x = x ≡ a

abbrev pub IsPair : ℕ → ℕ → ℕ → ℕ → Type 0
IsPair a b x y = (x ≡ a) × (y ≡ b)

-- No lead, and one.
abbrev pub NoLead : ℕ → ℕ → Option EdgeNo → Type 0
NoLead x y exit = ⊥

abbrev pub IsOneLead : ℕ → ℕ → Option EdgeNo → ℕ → ℕ → Option EdgeNo → Type 0
IsOneLead from to by x y exit = (x ≡ from) × (y ≡ to) × (exit ≡ by)

-- The pair, if it was added.
abbrev pub IsAdded : Bool → ℕ → ℕ → ℕ → ℕ → Type 0
IsAdded false a b = None2
IsAdded true a b = IsPair a b

-- There is nothing yet.
pub record AreEmpty (t : Lists) : Type 0 where
  pub ends : t.ends ≡ []
  pub edges : t.edges ≡ []
  pub reasons : t.reasons ≡ []
  pub begins : t.begins ≡ []
  pub leads : t.leads ≡ []
  pub by : t.by ≡ []
  pub callers : t.callers ≡ []
  pub exits : t.exits ≡ []
  pub visits : t.visits ≡ []
