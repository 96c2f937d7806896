-- This crate's own proofs alone rest on this module.
-- What holds of the tables of tabulation all the time, and what each step keeps.
use Rattle.std.specs.Prelude.{◌≡◌, ◌<◌, ℕ, List, [], ◌∷◌, length, Option, None, Some, slice_get}
use Rattle.op_model.specs.declared.node.Spot.TheVariants as spots
use Rattle.jvm_model.specs.declared.number.MethodNo.{MethodNo}
use Rattle.machine_bytecode.specs.Objects.{Subject}
use Rattle.stage_facts.specs.Facts.{SiteFact, none_yet}
use Rattle.stage_facts.specs.Plain.{fact_of}
use Rattle.stage_transfer.specs.Settings.{Setting}
use Rattle.stage_edges.specs.Rules.{Edge}
use Rattle.edge_steps.specs.declared.conclusions.Conclusion.{Conclusion}
use Rattle.edge_steps.specs.declared.conclusions.EnteredWith.{EnteredWith}
use Rattle.edge_steps.specs.Steps.{begun, within}
use Rattle.edge_numbers.specs.declared.because.Because.{Because}
use Rattle.edge_numbers.specs.declared.because.EdgeNo.{EdgeNo}
use Rattle.edge_numbers.specs.Premises.{FollowsFrom, StandAt, others, premises}
use Rattle.end_numbers.specs.Ends.{End, end}
use Rattle.ground_views.specs.declared.question.Question.{Question}
use Rattle.ground_views.specs.Questions.{GroundInstance, IsAskedOf}
use Rattle.tabulation_tables.specs.Lists.{HasEdge, IsEdgeAt, IsEdgeBetween, IsFollowed, IsLeadBetween, IsMet, IsProcessed, IsShaped, IsSound, Leads, LeadsSoundly, Lists, edge_of_numbers, edge_to, edges_of, numbered}
use Rattle.tabulation_tables.specs.Steps.{Grows}
use Rattle.tabulation.specs.declared.work.Premise.{Premise}

-- ---- all the time

-- The entries are true of whatever is asked.
pub record IsRight (q : Question) (t : Lists) : Type 0 where
  pub shape : IsShaped t
  pub sound : (x : Subject) (w : Setting) → IsAskedOf q x w → IsSound (GroundInstance q x w) t

-- So they are, and there are fewer edges than the limit.
pub record IsKept (q : Question) (t : Lists) : Type 0 where
  pub right : IsRight q t
  pub roomy : length t.edges < q.limit

-- The edge may be taken in: it follows from those that are named.
pub record MayTake (q : Question) (t : Lists) (b x : ℕ) (because : Because) : Type 0 where
  pub between : IsEdgeBetween t b x
  pub follows : (s : Subject) (w : Setting) → IsAskedOf q s w → FollowsFrom (GroundInstance q s w) (edges_of t) (premises because) (edge_of_numbers t (numbered b x))

-- The end may lead to the other one, by the exit or by none.
pub record MayLead (q : Question) (t : Lists) (x y : ℕ) (exit : Option EdgeNo) : Type 0 where
  pub between : IsLeadBetween t x y
  pub sound : (s : Subject) (w : Setting) → IsAskedOf q s w → LeadsSoundly (GroundInstance q s w) t x y exit

-- ---- steps

-- The tables grow, all holds still, and of the edges that were processed all is done.
pub record IsStep (q : Question) (old new : Lists) : Type 0 where
  pub kept : IsKept q new
  pub grows : Grows old new
  pub processed : (k : ℕ) → IsProcessed old k → IsProcessed new k

-- ---- what was found

-- The end of a conclusion within the method of an end.
abbrev pub end_within : Option MethodNo → Conclusion → End
end_within m c = end m c.spot (fact_of c.fact)

-- The end of the number is one of the method.
pub record IsOfMethod (t : Lists) (n : ℕ) (m : Option MethodNo) : Type 0 where
  pub end : End
  pub end_at : slice_get t.ends n ≡ Some end
  pub is : end.method ≡ m

-- With each entry the edge to the conclusion follows from that to the end of the premise, alone or with its exit.
pub record Concludes (q : Question) (t : Lists) (p : Premise) (c : Conclusion) : Type 0 where
  pub end : End
  pub end_at : slice_get t.ends p.end ≡ Some end
  pub rest : List Edge
  pub stand : StandAt (edges_of t) (others p.exit) rest
  pub follows : (x : Subject) (w : Setting) → IsAskedOf q x w → (entry : SiteFact) → GroundInstance q x w (edge_to end entry ∷ rest) (within p.method entry c)

-- The end leads to the conclusion.
pub record LeadsToConclusion (t : Lists) (x : ℕ) (m : Option MethodNo) (c : Conclusion) : Type 0 where
  pub number : ℕ
  pub at : slice_get t.ends number ≡ Some (end_within m c)
  pub leads : Leads t x number

-- The method may begin so: that it does follows from the edge of the number.
pub record MayBegin (q : Question) (t : Lists) (number : ℕ) (b : EnteredWith) : Type 0 where
  pub follows : (x : Subject) (w : Setting) → IsAskedOf q x w → FollowsFrom (GroundInstance q x w) (edges_of t) (number ∷ []) (begun b)

-- The edge to an exit was met by the caller.
pub record HasMetAll (q : Question) (t : Lists) (b c k : ℕ) : Type 0 where
  pub met : (x : Subject) (w : Setting) → IsAskedOf q x w → IsMet (GroundInstance q x w) t b c k

-- What follows from edges to the end alone was found.
pub record HasFollowedAll (q : Question) (t : Lists) (x : ℕ) : Type 0 where
  pub followed : (s : Subject) (w : Setting) → IsAskedOf q s w → IsFollowed (GroundInstance q s w) t x

-- The edge of the number leads to the end.
pub record IsReached (t : Lists) (k x : ℕ) : Type 0 where
  pub begin : ℕ
  pub at : IsEdgeAt t k begin x

-- ---- the beginning and the end

-- The edge with which the program starts is there.
pub record HasStart (t : Lists) : Type 0 where
  pub number : ℕ
  pub at : slice_get t.ends number ≡ Some (end None (spots.Node 0) none_yet)
  pub there : HasEdge t number number

pub record IsStarted (q : Question) (t : Lists) : Type 0 where
  pub kept : IsKept q t
  pub start : HasStart t

-- All edges were processed.
pub record IsFinished (q : Question) (t : Lists) : Type 0 where
  pub kept : IsKept q t
  pub start : HasStart t
  pub processed : (k : ℕ) → k < length t.edges → IsProcessed t k
