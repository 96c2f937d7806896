-- Public contracts rest on this module.
-- What tabulation has found, as lists by number; and what each of its entries claims.
use Rattle.std.specs.Prelude.{◌≡◌, ◌⊎◌, ℕ, Bool, true, List, [], ◌∷◌, length, map, Option, None, Some, slice_get, slice_index_or, Contains}
use Rattle.op_model.specs.declared.node.Spot.TheVariants as spots
use Rattle.chained_lists.specs.Entries.{Entry, entry}
use Rattle.stage_facts.specs.Facts.{SiteFact, none_yet}
use Rattle.stage_edges.specs.Rules.{Edge, IsExit, edge}
use Rattle.edge_numbers.specs.declared.because.Because.{Because}
use Rattle.edge_numbers.specs.declared.because.EdgeNo.{EdgeNo}
use Rattle.edge_numbers.specs.declared.numbered.NumberedEdge.{NumberedEdge}
use Rattle.edge_numbers.specs.Premises.{AreReasons, StandAt, others, premises}
use Rattle.end_numbers.specs.Ends.{End, end}
use Rattle.tabulation_tables.specs.declared.tables.Tables.{Tables}

-- ---- what is found

-- The ends and the edges, each once, and from which edges each follows. Of an end: with which ends its edges begin; to which ends it leads, and by which exit of a
-- method that it enters, if by one; and whether it was visited. Of an end with which a method begins: which ends enter the method with it, and the numbers of its
-- edges that lead to exits. Each stands in the order in which it was found.
pub record Lists : Type 0 where
  pub ends : List End
  pub edges : List NumberedEdge
  pub reasons : List Because
  pub begins : List Entry
  pub leads : List Entry
  pub by : List (Option EdgeNo)
  pub callers : List Entry
  pub exits : List Entry
  pub visits : List Bool

abbrev pub lists_of : Tables → Lists
lists_of t = record {
  ends = t.ends;
  edges = t.edges;
  reasons = t.reasons.items;
  begins = t.begins;
  leads = t.leads;
  by = t.by.items;
  callers = t.callers;
  exits = t.exits;
  visits = t.visits.items;
}

abbrev pub numbered : ℕ → ℕ → NumberedEdge
numbered b x = record { begin = b; end = x }

abbrev pub HasEdge : Lists → ℕ → ℕ → Type 0
HasEdge t b x = Contains t.edges (numbered b x)

-- The edge of a number.
abbrev pub IsEdgeAt : Lists → ℕ → ℕ → ℕ → Type 0
IsEdgeAt t k b x = slice_get t.edges k ≡ Some (numbered b x)

-- How an edge is found by its end.
abbrev pub found_by : NumberedEdge → Entry
found_by e = entry e.end e.begin

abbrev pub Leads : Lists → ℕ → ℕ → Type 0
Leads t x y = Contains t.leads (entry x y)

-- The end leads to the other one, by this exit or by none.
pub record IsLead (t : Lists) (x y : ℕ) (exit : Option EdgeNo) : Type 0 where
  pub place : ℕ
  pub at : slice_get t.leads place ≡ Some (entry x y)
  pub by : slice_get t.by place ≡ Some exit

abbrev pub Calls : Lists → ℕ → ℕ → Type 0
Calls t b c = Contains t.callers (entry b c)

abbrev pub Exits : Lists → ℕ → ℕ → Type 0
Exits t b k = Contains t.exits (entry b k)

abbrev pub IsVisited : Lists → ℕ → Type 0
IsVisited t x = slice_get t.visits x ≡ Some true

-- ---- edges

-- The edge that ends there, with this entry of its method.
abbrev pub edge_to : End → SiteFact → Edge
edge_to a entry = edge a.method entry a.spot a.fact

-- The end of a number, or any end where there is none.
abbrev pub end_or_any : Lists → ℕ → End
end_or_any t n = slice_index_or t.ends n (end None (spots.Node 0) none_yet)

abbrev pub edge_of_numbers : Lists → NumberedEdge → Edge
edge_of_numbers t e = edge_to (end_or_any t e.end) (end_or_any t e.begin).fact

abbrev pub edges_of : Lists → List Edge
edges_of t = map (edge_of_numbers t) t.edges

-- From which edges each follows, by their numbers.
abbrev pub reasons_of : Lists → List (List ℕ)
reasons_of t = map premises t.reasons

-- ---- what entries claim

-- The numbers are those of two ends of one method, and the method begins with the first.
pub record IsEdgeBetween (t : Lists) (b x : ℕ) : Type 0 where
  pub begin : End
  pub end : End
  pub begin_at : slice_get t.ends b ≡ Some begin
  pub end_at : slice_get t.ends x ≡ Some end
  pub first : begin.spot ≡ spots.Node 0
  pub same : begin.method ≡ end.method

-- The numbers are those of two ends of one method.
pub record IsLeadBetween (t : Lists) (x y : ℕ) : Type 0 where
  pub from : End
  pub to : End
  pub from_at : slice_get t.ends x ≡ Some from
  pub to_at : slice_get t.ends y ≡ Some to
  pub same : from.method ≡ to.method

-- With each entry the edge to the second end follows from that to the first, alone or with the exit.
pub record LeadsSoundly (I : List Edge → Edge → Type 0) (t : Lists) (x y : ℕ) (exit : Option EdgeNo) : Type 0 where
  pub from : End
  pub to : End
  pub from_at : slice_get t.ends x ≡ Some from
  pub to_at : slice_get t.ends y ≡ Some to
  pub rest : List Edge
  pub stand : StandAt (edges_of t) (others exit) rest
  pub follows : (entry : SiteFact) → I (edge_to from entry ∷ rest) (edge_to to entry)

-- The end leads to the edge with this entry.
pub record IsLedTo (t : Lists) (x : ℕ) (entry : SiteFact) (to : Edge) : Type 0 where
  pub number : ℕ
  pub end : End
  pub end_at : slice_get t.ends number ≡ Some end
  pub leads : Leads t x number
  pub is : to ≡ edge_to end entry

-- The end enters a method, which begins with the edge.
pub record IsBegun (t : Lists) (x : ℕ) (to : Edge) : Type 0 where
  pub number : ℕ
  pub begin : End
  pub begin_at : slice_get t.ends number ≡ Some begin
  pub called : Calls t number x
  pub there : HasEdge t number number
  pub is : to ≡ edge_to begin begin.fact

-- What follows from an edge to the end alone was found, with each entry.
pub record IsFollowed (I : List Edge → Edge → Type 0) (t : Lists) (x : ℕ) : Type 0 where
  pub end : End
  pub end_at : slice_get t.ends x ≡ Some end
  pub all : (entry : SiteFact) (to : Edge) → I (edge_to end entry ∷ []) to → IsLedTo t x entry to ⊎ IsBegun t x to

-- What follows from an edge to the caller and one to an exit of the method that it enters was found, with each entry of the caller.
pub record IsMet (I : List Edge → Edge → Type 0) (t : Lists) (b c k : ℕ) : Type 0 where
  pub last : ℕ
  pub begin : End
  pub caller : End
  pub exit : End
  pub edge_at : IsEdgeAt t k b last
  pub begin_at : slice_get t.ends b ≡ Some begin
  pub caller_at : slice_get t.ends c ≡ Some caller
  pub exit_at : slice_get t.ends last ≡ Some exit
  pub all : (entry : SiteFact) (to : Edge) → I (edge_to caller entry ∷ edge_to exit begin.fact ∷ []) to → IsLedTo t c entry to

-- ---- what holds of all entries

-- The number is that of an end.
pub record IsNumber (t : Lists) (n : ℕ) : Type 0 where
  pub end : End
  pub end_at : slice_get t.ends n ≡ Some end

-- The number is that of an edge with this begin.
pub record IsBegunBy (t : Lists) (b k : ℕ) : Type 0 where
  pub end : ℕ
  pub at : IsEdgeAt t k b end

-- Numbers are those of ends and of edges, each edge is found once by its end, and has a reason.
pub record IsShaped (t : Lists) : Type 0 where
  pub edges : (b x : ℕ) → HasEdge t b x → IsEdgeBetween t b x
  pub found : t.begins ≡ map found_by t.edges
  pub reasoned : length t.reasons ≡ length t.edges
  pub leads : (x y : ℕ) → Leads t x y → IsLeadBetween t x y
  pub noted : length t.by ≡ length t.leads
  pub callers : (b c : ℕ) → Calls t b c → IsNumber t c
  pub exits : (b k : ℕ) → Exits t b k → IsBegunBy t b k

-- Each edge follows from those that are named, which stand before it; and each entry is true by the rules.
pub record IsSound (I : List Edge → Edge → Type 0) (t : Lists) : Type 0 where
  pub reasons : AreReasons I (edges_of t) (reasons_of t)
  pub leads : (x y : ℕ) (exit : Option EdgeNo) → IsLead t x y exit → LeadsSoundly I t x y exit
  pub followed : (x : ℕ) → IsVisited t x → IsFollowed I t x
  pub met : (b c k : ℕ) → Calls t b c → Exits t b k → IsMet I t b c k

-- Of the edge at a place all was done: its end was visited if it is a node, and noted if it is an exit, and to each end that its end leads to there is an edge with
-- the same begin.
pub record IsProcessed (t : Lists) (k : ℕ) : Type 0 where
  pub edge : NumberedEdge
  pub at : slice_get t.edges k ≡ Some edge
  pub end : End
  pub end_at : slice_get t.ends edge.end ≡ Some end
  pub visited : (offset : ℕ) → end.spot ≡ spots.Node offset → IsVisited t edge.end
  pub left : IsExit end.spot → Exits t edge.begin k
  pub led : (y : ℕ) → Leads t edge.end y → HasEdge t edge.begin y
