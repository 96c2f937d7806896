-- Public contracts rest on this module.
-- The conditions on the listed path edges of a claim, and where which of them fails first. Those that speak of what follows are the rules of path edges,
-- by their indexes.
use Rattle.std.specs.Prelude.{◌≡◌, ◌≢◌, ◌⊎◌, ◌<◌, ◌≤◌, ℕ, max, List, [], ◌∷◌, map, None, Some, slice_get, Contains}
use Rattle.std.specs.List.{AllByRecursion}
use Rattle.std.specs.declared.cmp.Ordering.TheVariants.{Greater}
use Rattle.op_model.specs.declared.node.Spot.TheVariants as spots
use Rattle.op_model.specs.Supplies.{GivenAs}
use Rattle.machine_bytecode.specs.Objects.{Subject}
use Rattle.least_sets.specs.Rules.{IsClosedSet}
use Rattle.points_to_rules.specs.Facts.{Fact}
use Rattle.ground.specs.Findings.{gives_listed}
use Rattle.stage_facts.specs.Facts.{none_yet}
use Rattle.stage_transfer.specs.Settings.{Setting}
use Rattle.stage_transfer.specs.Stages.{Transfer}
use Rattle.stage_edges.specs.Edges.{IsError, StageInstance}
use Rattle.stage_edges.specs.Rules.{Edge, Instance, edge, start, goes_on, returns, raises, answers, described_raises, enters, call_returns, resumes, unwinds}
use Rattle.certificate_lines.specs.LineOrder.{edge_cmp}
use Rattle.ground_views.specs.declared.question.Question.{Question}
use Rattle.ground_views.specs.Questions.{edge_of}
use Rattle.edge_checker.specs.declared.numbered_edge.NumberedEdge.{NumberedEdge}
use Rattle.edge_checker.specs.declared.rejected.EdgeCondition.{EdgeCondition}
use Rattle.edge_checker.specs.declared.rejected.EdgeCondition.TheVariants.{Start, Flow, Enter, Leave, Error}

-- ---- listed edges

-- The edge that a listed one stands for.
abbrev pub edge_in : NumberedEdge → Edge
edge_in a = edge_of a.edge

abbrev pub edges_of : List NumberedEdge → List Edge
edges_of listed = map edge_in listed

-- Some listed one stands for the edge.
pub record HasEdge (listed : List NumberedEdge) (e : Edge) : Type 0 where
  pub line : NumberedEdge
  pub stands : Contains listed line
  pub is : edge_in line ≡ e

-- No edge stands behind a greater one.
pub record AreInOrder (listed : List NumberedEdge) : Type 0 where
  pub ascend : (i j : ℕ) (a b : NumberedEdge) → i ≤ j → slice_get listed i ≡ Some a → slice_get listed j ≡ Some b → edge_cmp (edge_in a) (edge_in b) ≢ Greater

-- The last of the lines.
abbrev pub last_line : List NumberedEdge → ℕ
last_line [] = 0
last_line (a ∷ rest) = max a.line (last_line rest)

-- ---- the conditions

-- The program starts without an object of the site.
abbrev pub start_edge : Edge
start_edge = edge None none_yet (spots.Node 0) none_yet

-- The condition of a rule: 4 of the start, 5 within a method, 6 into one, and 7 out of one.
abbrev pub condition_of : {x : Subject} {gives : GivenAs} {S : Fact → Type 0} {t : Transfer} {premises : List Edge} {e : Edge} → Instance x gives S t premises e → ℕ
condition_of start = 4
condition_of (goes_on m l n e f g offset node no_call there gives_g) = 5
condition_of (returns m l n e f g value node is gives_g) = 5
condition_of (raises m l n e f g class handler spot node throws goes gives_g) = 5
condition_of (answers m l n e f sent g c target stub parameters result offset node is goes described listed there sends gives_g) = 5
condition_of (described_raises m l n e f sent g c target stub parameters class handler spot node is goes described throws lands sends gives_g) = 5
condition_of (enters m l n e f sent target by node sends) = 6
condition_of (call_returns m l n e f sent out g target c offset node sends there gives_g) = 7
condition_of (resumes m l n e f out target exit node starts is) = 7
condition_of (unwinds m l n e f sent out g target by class handler spot node sends throws lands gives_g) = 7

abbrev pub number_of : EdgeCondition → ℕ
number_of Start = 4
number_of Flow = 5
number_of Enter = 6
number_of Leave = 7
number_of Error = 8

-- The listed edges meet all conditions: the start is listed; what follows from listed edges is; and in none is an object in the error state.
pub record AreMet (x : Subject) (gives : GivenAs) (S : Fact → Type 0) (w : Setting) (listed : List NumberedEdge) : Type 0 where
  pub starts : HasEdge listed start_edge
  pub closed : IsClosedSet (StageInstance x gives S w) (HasEdge listed)
  pub calm : (a : NumberedEdge) → Contains listed a → IsError x.property (edge_in a).fact → ⊥

-- A condition fails at a line: the start is not listed, at the line of the claim; what follows from listed edges is not, at the last of their lines; or an
-- object is in the error state.
pub data Fails (x : Subject) (gives : GivenAs) (S : Fact → Type 0) (w : Setting) (claim : ℕ) (listed : List NumberedEdge) : (condition line : ℕ) → Type 0 where
  no_start : (HasEdge listed start_edge → ⊥) → Fails x gives S w claim listed 4 claim
  not_listed : (a : NumberedEdge) (rest : List NumberedEdge) (e : Edge) (i : StageInstance x gives S w (edges_of (a ∷ rest)) e) → AllByRecursion (Contains listed) (a ∷ rest)
      → (HasEdge listed e → ⊥) → Fails x gives S w claim listed (condition_of i) (last_line (a ∷ rest))
  in_error : (a : NumberedEdge) → Contains listed a → IsError x.property (edge_in a).fact → Fails x gives S w claim listed 8 a.line

-- ---- the first failure

-- The condition is an earlier one, or it is the same one at a line that is not later.
abbrev pub IsUpTo : (condition line other_condition other_line : ℕ) → Type 0
IsUpTo condition line k l = (condition < k) ⊎ ((condition ≡ k) × (line ≤ l))

-- The condition fails at the line, no earlier one fails, nor does this one at an earlier line.
pub record IsFirst (F : ℕ → ℕ → Type 0) (condition line : ℕ) : Type 0 where
  pub fails : F condition line
  pub first : (k l : ℕ) → F k l → IsUpTo condition line k l

-- ---- by the facts and the methods of a ground

abbrev pub AreMetBy : Question → Subject → Setting → List NumberedEdge → Type 0
AreMetBy q x w listed = AreMet x (gives_listed q.ground.now.methods) (Contains q.ground.now.facts) w listed

abbrev pub FailsBy : Question → Subject → Setting → (claim : ℕ) → List NumberedEdge → (condition line : ℕ) → Type 0
FailsBy q x w claim listed = Fails x (gives_listed q.ground.now.methods) (Contains q.ground.now.facts) w claim listed
