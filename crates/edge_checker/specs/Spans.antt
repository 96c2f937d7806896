-- This crate's own proofs alone rest on this module.
-- Where edges stand in a list that is in order.
use Rattle.std.specs.Prelude.{◌≡◌, ◌<◌, ◌≤◌, ℕ, List, length, Some, slice_get}
use Rattle.std.specs.declared.cmp.Ordering.{Ordering}
use Rattle.std.specs.Ordering.{nat_cmp, ordering_then}
use Rattle.jvm_model.specs.declared.number.MethodNo.{MethodNo}
use Rattle.site_report.specs.Sites.{method_rank}
use Rattle.stage_facts.specs.Facts.{SiteFact}
use Rattle.stage_facts.specs.Plain.{fact_of}
use Rattle.stage_edges.specs.Rules.{Edge, IsExit, edge}
use Rattle.certificate_lines.specs.LineOrder.{fact_cmp}
use Rattle.edge_checker.specs.declared.compare.WantedEdge.{WantedEdge}
use Rattle.edge_checker.specs.declared.numbered_edge.NumberedEdge.{NumberedEdge}
use Rattle.edge_checker.specs.Conditions.{edge_in}

-- The edge that is looked for.
abbrev pub edge_wanted : WantedEdge → Edge
edge_wanted e = edge e.method (fact_of e.entry.now) e.spot (fact_of e.fact.now)

-- By the method and the fact with which it is entered.
abbrev pub entry_cmp : Edge → Edge → Ordering
entry_cmp a b = ordering_then (nat_cmp (method_rank a.method) (method_rank b.method)) (fact_cmp a.entry b.entry)

-- The edge is to an exit of the method, which is entered with the fact.
pub record IsExitOf (e : Edge) (m : MethodNo) (f : SiteFact) : Type 0 where
  pub method : e.method ≡ Some m
  pub entry : e.entry ≡ f
  pub exit : IsExit e.spot

-- Just the edges to its exits stand from the one place up to the other.
pub record IsExitSpan (listed : List NumberedEdge) (m : MethodNo) (f : SiteFact) (from to : ℕ) : Type 0 where
  pub within : to ≤ length listed
  pub ordered : from ≤ to
  pub those : (k : ℕ) (a : NumberedEdge) → from ≤ k → k < to → slice_get listed k ≡ Some a → IsExitOf (edge_in a) m f
  pub all : (k : ℕ) (a : NumberedEdge) → slice_get listed k ≡ Some a → IsExitOf (edge_in a) m f → (from ≤ k) × (k < to)
