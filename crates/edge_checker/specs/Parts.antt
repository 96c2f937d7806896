-- This crate's own proofs alone rest on this module.
-- What is asked of one listed edge, part by part, and how it fails.
use Rattle.std.specs.Prelude.{◌≡◌, ◌∷◌, [], ℕ, max, List, Option, None, Some, slice_get, Contains}
use Rattle.std.specs.List.{AllByRecursion}
use Rattle.jvm_model.specs.declared.automaton.Automaton.{Automaton}
use Rattle.op_model.specs.declared.node.NodeRef.{NodeRef}
use Rattle.op_model.specs.declared.node.Spot.TheVariants as spots
use Rattle.machine_bytecode.specs.Objects.{Subject}
use Rattle.stage_facts.specs.Plain.{fact_of}
use Rattle.stage_transfer.specs.Settings.{Setting}
use Rattle.stage_edges.specs.Edges.{IsError}
use Rattle.stage_edges.specs.Rules.{Edge, before}
use Rattle.edge_steps.specs.declared.conclusions.Conclusion.{Conclusion}
use Rattle.edge_steps.specs.declared.conclusions.EnteredWith.{EnteredWith}
use Rattle.edge_steps.specs.Steps.{begun, within}
use Rattle.ground_views.specs.declared.path_edge.PathEdge.{PathEdge}
use Rattle.ground_views.specs.declared.question.Question.{Question}
use Rattle.ground_views.specs.declared.viewed_node.ViewedNode.{ViewedNode}
use Rattle.ground_views.specs.Questions.{GroundInstance}
use Rattle.ground_views.specs.Views.{AreViewsOf, IsSeen}
use Rattle.edge_checker.specs.declared.checking.Checking.{Checking}
use Rattle.edge_checker.specs.declared.numbered_edge.NumberedEdge.{NumberedEdge}
use Rattle.edge_checker.specs.Conditions.{AreInOrder, HasEdge, condition_of, edge_in, edges_of, last_line, start_edge}
use Rattle.edge_checker.specs.Spans.{IsExitOf}

-- ---- what a check is given

-- The question is about a site, the views are those of its ground, and the listed edges are in order.
pub record IsChecking (c : Checking) : Type 0 where
  pub site : slice_get c.question.now.ground.now.sites c.question.now.site.0 ≡ Some c.question.now.setting.site.now
  pub views : AreViewsOf c.question.now.ground.now c.question.now.entry c.views.now
  pub order : AreInOrder c.listed.now

-- The node to which an edge leads, if it leads to one.
pub data IsNodeOfEdge (e : PathEdge) : Option NodeRef → Type 0 where
  to_node : (offset : ℕ) → e.spot ≡ spots.Node offset → IsNodeOfEdge e (Some (record { method = e.method; offset = offset }))
  to_return : e.spot ≡ spots.Returned → IsNodeOfEdge e None
  to_throw : e.spot ≡ spots.Thrown → IsNodeOfEdge e None

-- The edge leads to the node that is looked at.
pub record IsSeenAt (q : Question) (k : ViewedNode) (e : Edge) : Type 0 where
  pub node : NodeRef
  pub seen : IsSeen q node k
  pub method : e.method ≡ k.method
  pub spot : e.spot ≡ before k.node.now

-- ---- lists of what follows

-- Each edge with the entry of this one is listed; or one is not.
pub record AreListed (listed : List NumberedEdge) (a : NumberedEdge) (conclusions : List Conclusion) : Type 0 where
  pub each : (c : Conclusion) → Contains conclusions c → HasEdge listed (within a.edge.method (fact_of a.edge.entry) c)

pub record IsOneMissing (listed : List NumberedEdge) (a : NumberedEdge) (conclusions : List Conclusion) : Type 0 where
  pub c : Conclusion
  pub among : Contains conclusions c
  pub missing : HasEdge listed (within a.edge.method (fact_of a.edge.entry) c) → ⊥

-- Each method that is entered begins; or one does not.
pub record AreBegun (listed : List NumberedEdge) (entered : List EnteredWith) : Type 0 where
  pub each : (b : EnteredWith) → Contains entered b → HasEdge listed (begun b)

pub record IsNotBegun (listed : List NumberedEdge) (entered : List EnteredWith) : Type 0 where
  pub b : EnteredWith
  pub among : Contains entered b
  pub missing : HasEdge listed (begun b) → ⊥

-- A part fails at one condition and line.
pub record FailsAs (Missing : Type 0) (condition line k l : ℕ) : Type 0 where
  pub missing : Missing
  pub condition_is : k ≡ condition
  pub line_is : l ≡ line

-- ---- two edges

-- What follows from the edge and this exit is listed; or something is not.
pub record IsExitMet (q : Question) (listed : List NumberedEdge) (a r : NumberedEdge) (x : Subject) (w : Setting) : Type 0 where
  pub each : (e : Edge) → GroundInstance q x w (edge_in a ∷ edge_in r ∷ []) e → HasEdge listed e

pub record IsExitMissing (q : Question) (listed : List NumberedEdge) (a r : NumberedEdge) (x : Subject) (w : Setting) : Type 0 where
  pub e : Edge
  pub follows : GroundInstance q x w (edge_in a ∷ edge_in r ∷ []) e
  pub missing : HasEdge listed e → ⊥

abbrev pub ExitFails : Question → List NumberedEdge → (a r : NumberedEdge) → Subject → Setting → (k l : ℕ) → Type 0
ExitFails q listed a r x w = FailsAs (IsExitMissing q listed a r x w) 7 (max a.line r.line)

-- The same of each exit of a method that is entered with a fact.
pub record AreExitsMet (q : Question) (listed : List NumberedEdge) (a : NumberedEdge) (b : EnteredWith) (x : Subject) (w : Setting) : Type 0 where
  pub each : (r : NumberedEdge) → Contains listed r → IsExitOf (edge_in r) b.method (fact_of b.fact) → IsExitMet q listed a r x w

pub record ExitsFail (q : Question) (listed : List NumberedEdge) (a : NumberedEdge) (b : EnteredWith) (x : Subject) (w : Setting) (k l : ℕ) : Type 0 where
  pub r : NumberedEdge
  pub stands : Contains listed r
  pub is : IsExitOf (edge_in r) b.method (fact_of b.fact)
  pub fails : ExitFails q listed a r x w k l

-- And of all methods that are entered.
pub record AreLeft (q : Question) (listed : List NumberedEdge) (a : NumberedEdge) (entered : List EnteredWith) (x : Subject) (w : Setting) : Type 0 where
  pub each : (b : EnteredWith) → Contains entered b → AreExitsMet q listed a b x w

pub record LeavingFails (q : Question) (listed : List NumberedEdge) (a : NumberedEdge) (entered : List EnteredWith) (x : Subject) (w : Setting) (k l : ℕ) : Type 0 where
  pub b : EnteredWith
  pub among : Contains entered b
  pub fails : ExitsFail q listed a b x w k l

-- ---- an edge and those after it in a rule

-- What follows from the edge, alone and with other listed ones, is listed; or something is not.
pub record MeetsAt (q : Question) (listed : List NumberedEdge) (a : NumberedEdge) (x : Subject) (w : Setting) : Type 0 where
  pub each : (rest : List NumberedEdge) (e : Edge) → GroundInstance q x w (edges_of (a ∷ rest)) e → AllByRecursion (Contains listed) rest → HasEdge listed e

pub record FailsAt (q : Question) (listed : List NumberedEdge) (a : NumberedEdge) (x : Subject) (w : Setting) (k l : ℕ) : Type 0 where
  pub rest : List NumberedEdge
  pub e : Edge
  pub follows : GroundInstance q x w (edges_of (a ∷ rest)) e
  pub hold : AllByRecursion (Contains listed) rest
  pub missing : HasEdge listed e → ⊥
  pub condition_is : k ≡ condition_of follows
  pub line_is : l ≡ last_line (a ∷ rest)

-- ---- all edges

pub record AllMeet (q : Question) (listed : List NumberedEdge) (x : Subject) (w : Setting) : Type 0 where
  pub each : (a : NumberedEdge) → Contains listed a → MeetsAt q listed a x w

pub record SomeFails (q : Question) (listed : List NumberedEdge) (x : Subject) (w : Setting) (k l : ℕ) : Type 0 where
  pub a : NumberedEdge
  pub stands : Contains listed a
  pub fails : FailsAt q listed a x w k l

-- The start is listed; or it is not.
pub record IsStarted (listed : List NumberedEdge) : Type 0 where
  pub has : HasEdge listed start_edge

pub record IsNotStarted (listed : List NumberedEdge) : Type 0 where
  pub missing : HasEdge listed start_edge → ⊥

-- No object is in the error state; or one is.
pub record IsCalm (p : Automaton) (a : NumberedEdge) : Type 0 where
  pub calm : IsError p (edge_in a).fact → ⊥

pub record IsInError (p : Automaton) (a : NumberedEdge) : Type 0 where
  pub error : IsError p (edge_in a).fact

abbrev pub ErrorFails : Automaton → NumberedEdge → (k l : ℕ) → Type 0
ErrorFails p a = FailsAs (IsInError p a) 8 a.line

pub record AreCalm (p : Automaton) (listed : List NumberedEdge) : Type 0 where
  pub each : (a : NumberedEdge) → Contains listed a → IsCalm p a

pub record SomeInError (p : Automaton) (listed : List NumberedEdge) (k l : ℕ) : Type 0 where
  pub a : NumberedEdge
  pub stands : Contains listed a
  pub fails : ErrorFails p a k l
