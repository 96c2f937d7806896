-- Edges that meet the conditions, from the parts of the conditions; and what is true of them.
use Rattle.std.proofs.Common.{◌≡◌, ◌⊎◌, inl, inr, ℕ, List, [], ◌∷◌, Option, None, Some, refl, sym, ◌∙◌, subst}
use Rattle.std.specs.List.{AllByRecursion, Contains}
use Rattle.std.specs.Option.{IfSome}
use Rattle.op_model.specs.Supplies.{GivenAs}
use Rattle.jvm_model.specs.declared.automaton.Automaton.{Automaton}
use Rattle.machine_bytecode.specs.Objects.{Subject}
use Rattle.least_sets.specs.Rules.{Hold, IsClosedSet, IsDerivable}
use Rattle.least_sets.proofs.Derivations.{Hold-larger, derivable_in_closed}
use Rattle.least_sets.proofs.Joined.{derivable_is_closed}
use Rattle.points_to_rules.specs.Facts.{Fact}
use Rattle.ground.specs.Findings.{gives_listed}
use Rattle.stage_transfer.specs.Settings.{Setting}
use Rattle.stage_transfer.specs.Stages.{transfer_of}
use Rattle.stage_edges.specs.Edges.{IsError, StageInstance}
use Rattle.stage_edges.specs.Rules.{Edge, start}
use Rattle.ground_views.specs.declared.question.Question.{Question}
use Rattle.ground_views.specs.Questions.{IsAskedOf}
use Rattle.edge_checker.specs.declared.numbered_edge.NumberedEdge.{NumberedEdge}
use Rattle.edge_checker.specs.declared.rejected.Rejected.{Rejected}
use Rattle.edge_checker.specs.Conditions.{AreMet, AreMetBy, Fails, FailsBy, HasEdge, IsFirst, edge_in, edges_of, in_error, no_start, not_listed, number_of, start_edge}
use Rattle.edge_checker.specs.Failures.{IsLeastFor, IsLeastOf, IsLesserOf}
use Rattle.edge_checker.specs.Laws.{AreAccepted, AreAllListed, AreJustListed}
use Rattle.edge_checker.specs.Parts.{AllMeet, AreCalm, FailsAs, IsNotStarted, IsStarted, SomeFails, SomeInError}
use Rattle.edge_checker.proofs.ByCondition.{kind}
use Rattle.edge_checker.proofs.Leasts.{joined, least_same}

-- ---- premises that are listed

-- Listed edges stand for the premises.
record StandFor (listed : List NumberedEdge) (premises : List Edge) : Type 0 where
  edges : List NumberedEdge
  hold : AllByRecursion (Contains listed) edges
  are : edges_of edges ≡ premises

stand_for : (listed : List NumberedEdge) (premises : List Edge) → Hold (HasEdge listed) premises → StandFor listed premises
stand_for listed [] hold = record { edges = []; hold = tt; are = refl }
stand_for listed (p ∷ ps) hold =
    let rest = stand_for listed ps hold.1 in
    let is = hold.0.is in
    let are = rest.are in
    record { edges = hold.0.line ∷ rest.edges; hold = (hold.0.stands, rest.hold); are = λ i. is i ∷ are i }

has_each : (listed edges : List NumberedEdge) → AllByRecursion (Contains listed) edges → Hold (HasEdge listed) (edges_of edges)
has_each listed [] hold = tt
has_each listed (a ∷ rest) hold = (record { line = a; stands = hold.0; is = refl }, has_each listed rest hold.1)

-- ---- from the parts

module _ (q : Question) (listed : List NumberedEdge) (claim : ℕ) (x : Subject) (w : Setting) (asked : IsAskedOf q x w) where
  property_is : q.setting.automaton.now ≡ x.property
  property_is = sym asked.like.property ∙ asked.setting.property

  closed_by : HasEdge listed start_edge → AllMeet q listed x w → IsClosedSet (StageInstance x (gives_listed q.ground.now.methods) (Contains q.ground.now.facts) w) (HasEdge listed)
  closed_by started met [] to i hold =
      subst (HasEdge listed) (sym (kind x (gives_listed q.ground.now.methods) (Contains q.ground.now.facts) (transfer_of w) [] to i).1) started
  closed_by started met (p ∷ ps) to i hold =
      let first = hold.0 in
      let others = stand_for listed ps hold.1 in
      let is = first.is in
      let are = others.are in
      (met.each first.line first.stands).each others.edges to
      (subst (λ (premises : List Edge). StageInstance x (gives_listed q.ground.now.methods) (Contains q.ground.now.facts) w premises to)
      {x = p ∷ ps} {y = edges_of (first.line ∷ others.edges)} (λ i. sym is i ∷ sym are i) i) others.hold

  abbrev Parts : Type 0
  Parts = (IsStarted listed × AllMeet q listed x w) × AreCalm q.setting.automaton.now listed

  abbrev SomePart : ℕ → ℕ → Type 0
  SomePart k l = (FailsAs (IsNotStarted listed) 4 claim k l ⊎ SomeFails q listed x w k l) ⊎ SomeInError q.setting.automaton.now listed k l

  all_met : Parts → AreMetBy q x w listed
  all_met parts = record {
    starts = parts.0.0.has;
    closed = closed_by parts.0.0.has parts.0.1;
    calm = λ a stands error. (parts.1.each a stands).calm (subst (λ (p : Automaton). IsError p (edge_in a).fact) (sym property_is) error);
  }

  -- a failure at the same condition and line
  at : (k l j m : ℕ) → k ≡ j → l ≡ m → FailsBy q x w claim listed j m → FailsBy q x w claim listed k l
  at k l j m condition line f =
      subst (λ (z : ℕ × ℕ). FailsBy q x w claim listed z.0 z.1) {x = (j, m)} {y = (k, l)} (λ i. (sym condition i, sym line i)) f

  one_fails : (k l : ℕ) → SomePart k l → FailsBy q x w claim listed k l
  one_fails k l (inl (inl f)) = at k l 4 claim f.condition_is f.line_is (no_start f.missing.missing)
  one_fails k l (inl (inr f)) =
      let g = f.fails in at k l _ _ g.condition_is g.line_is (not_listed f.a g.rest g.e g.follows (f.stands, g.hold) g.missing)
  one_fails k l (inr f) =
      at k l 8 f.a.line f.fails.condition_is f.fails.line_is (in_error f.a f.stands (subst (λ (p : Automaton). IsError p (edge_in f.a).fact) property_is f.fails.missing.error))

  part_of : (k l : ℕ) → FailsBy q x w claim listed k l → SomePart k l
  part_of k l (no_start missing) = inl (inl (record { missing = record { missing = missing }; condition_is = refl; line_is = refl }))
  part_of k l (not_listed a rest e i hold missing) = inl (inr (record {
    a = a;
    stands = hold.0;
    fails = record { rest = rest; e = e; follows = i; hold = hold.1; missing = missing; condition_is = refl; line_is = refl };
  }))
  part_of k l (in_error a stands error) = inr (record {
    a = a;
    stands = stands;
    fails = record {
      missing = record { error = subst (λ (p : Automaton). IsError p (edge_in a).fact) (sym property_is) error };
      condition_is = refl;
      line_is = refl;
    };
  })

-- Of listed edges it is the first failure, for each subject and setting of which it is asked.
pub record IsAnswer (q : Question) (listed : List NumberedEdge) (claim : ℕ) (o : Option Rejected) : Type 0 where
  pub each : (x : Subject) (w : Setting) → IsAskedOf q x w → IsLeastOf (AreMetBy q x w listed) (FailsBy q x w claim listed) o

pub whole_least : (q : Question) (listed : List NumberedEdge) (claim : ℕ) (started rules error early all : Option Rejected)
    → IsLeastOf (IsStarted listed) (FailsAs (IsNotStarted listed) 4 claim) started → IsLeastFor q (AllMeet q listed) (SomeFails q listed) rules
    → IsLeastOf (AreCalm q.setting.automaton.now listed) (SomeInError q.setting.automaton.now listed) error → IsLesserOf started rules early → IsLesserOf early error all
    → IsAnswer q listed claim all
whole_least q listed claim started rules error early all h g f lesser least = record {
  each = λ x w asked.
      least_same (Parts q listed claim x w asked) (AreMetBy q x w listed) (SomePart q listed claim x w asked) (FailsBy q x w claim listed) all (all_met q listed claim x w asked)
      (one_fails q listed claim x w asked) (part_of q listed claim x w asked)
      (joined (IsStarted listed × AllMeet q listed x w) (AreCalm q.setting.automaton.now listed)
      (λ (k l : ℕ). FailsAs (IsNotStarted listed) 4 claim k l ⊎ SomeFails q listed x w k l) (SomeInError q.setting.automaton.now listed) early error all least
      (joined (IsStarted listed) (AllMeet q listed x w) (FailsAs (IsNotStarted listed) 4 claim) (SomeFails q listed x w) started rules early lesser h (g.each x w asked)) f);
}

-- ---- what it says of the answer

pub answer_met : (q : Question) (listed : List NumberedEdge) (claim : ℕ) (o : Option Rejected) → IsAnswer q listed claim o → o ≡ None → (x : Subject) (w : Setting)
    → IsAskedOf q x w → AreMetBy q x w listed
answer_met q listed claim o h is x w asked = (subst (IsLeastOf (AreMetBy q x w listed) (FailsBy q x w claim listed)) is (h.each x w asked)).met

pub answer_none : (q : Question) (listed : List NumberedEdge) (claim : ℕ) (o : Option Rejected) → IsAnswer q listed claim o → o ≡ None → (x : Subject) (w : Setting)
    → IsAskedOf q x w → (k l : ℕ) → FailsBy q x w claim listed k l → ⊥
answer_none q listed claim o h is x w asked = (subst (IsLeastOf (AreMetBy q x w listed) (FailsBy q x w claim listed)) is (h.each x w asked)).none

pub answer_first : (q : Question) (listed : List NumberedEdge) (claim : ℕ) (o : Option Rejected) → IsAnswer q listed claim o
    → IfSome o (λ (f : Rejected). (x : Subject) (w : Setting) → IsAskedOf q x w → IsFirst (FailsBy q x w claim listed) (number_of f.condition) f.line)
answer_first q listed claim None h = tt
answer_first q listed claim (Some f) h = h.each

-- ---- laws

module _ (x : Subject) (gives : GivenAs) (S : Fact → Type 0) (w : Setting) (claim : ℕ) (listed : List NumberedEdge) where
  calm_of : AreMet x gives S w listed → (e : Edge) → HasEdge listed e → IsError x.property e.fact → ⊥
  calm_of met e has error = met.calm has.line has.stands (subst (λ (d : Edge). IsError x.property d.fact) (sym has.is) error)

  never_fails : AreMet x gives S w listed → (k l : ℕ) → Fails x gives S w claim listed k l → ⊥
  never_fails met k l (no_start missing) = missing met.starts
  never_fails met k l (not_listed a rest e i hold missing) = missing (met.closed (edges_of (a ∷ rest)) e i (has_each listed (a ∷ rest) hold))
  never_fails met k l (in_error a stands error) = met.calm a stands error

  just_met : AreJustListed x gives S w listed → AreMet x gives S w listed
  just_met just = record {
    starts = just.all start_edge (derivable_is_closed (StageInstance x gives S w) [] start_edge start tt);
    closed = λ premises to i hold.
        just.all to (derivable_is_closed (StageInstance x gives S w) premises to i (Hold-larger (HasEdge listed) (IsDerivable (StageInstance x gives S w))
        (λ e has. subst (IsDerivable (StageInstance x gives S w)) has.is (just.only has.line has.stands)) premises hold));
    calm = just.calm;
  }

pub all_listed : (x : Subject) (gives : GivenAs) (S : Fact → Type 0) (w : Setting) (listed : List NumberedEdge) → AreMet x gives S w listed → AreAllListed x gives S w listed
all_listed x gives S w listed met = record {
  within = λ e derived. derivable_in_closed (StageInstance x gives S w) (HasEdge listed) e derived met.closed;
  calm = λ e derived error. calm_of x gives S w 0 listed met e (derivable_in_closed (StageInstance x gives S w) (HasEdge listed) e derived met.closed) error;
}

pub accepted : (x : Subject) (gives : GivenAs) (S : Fact → Type 0) (w : Setting) (claim : ℕ) (listed : List NumberedEdge) → AreJustListed x gives S w listed
    → AreAccepted x gives S w claim listed
accepted x gives S w claim listed just =
    let met = just_met x gives S w claim listed just in record { met = met; none = never_fails x gives S w claim listed met }
