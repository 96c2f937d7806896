-- What follows from edges to an end, by what was found to follow at its node.
use Rattle.std.proofs.Common.{◌≡◌, ◌∙◌, ◌⊎◌, inl, inr, ℕ, Bool, List, [], ◌∷◌, Option, None, Some, refl, sym, ap, subst}
use Rattle.std.specs.List.{All, Contains, slice_get}
use Rattle.std.proofs.lemmas.List.Elements.{All-contains}
use Rattle.std.proofs.lemmas.Option.{none-some, same_Some}
use Rattle.jvm_model.specs.declared.number.MethodNo.{MethodNo}
use Rattle.op_model.specs.declared.lowered.LoweredMethod.{LoweredMethod}
use Rattle.op_model.specs.declared.node.Node.{Node}
use Rattle.op_model.specs.declared.node.Spot.{Spot}
use Rattle.op_model.specs.declared.node.Spot.TheVariants as spots
use Rattle.machine_bytecode.specs.Objects.{Subject}
use Rattle.list_laws.proofs.Members.{contains_none}
use Rattle.ground.specs.Findings.{gives_listed}
use Rattle.stage_facts.specs.Facts.{SiteFact}
use Rattle.stage_transfer.specs.Settings.{Setting}
use Rattle.stage_transfer.specs.Stages.{transfer_of}
use Rattle.stage_edges.specs.Rules.{Edge, IsNode, before, edge}
use Rattle.edge_steps.specs.declared.conclusions.Conclusion.{Conclusion}
use Rattle.edge_steps.specs.declared.conclusions.EnteredWith.{EnteredWith}
use Rattle.edge_steps.specs.Steps.{AreFollowing, IsOneOf, begins, begun, goes, within}
use Rattle.edge_numbers.specs.declared.because.EdgeNo.{EdgeNo}
use Rattle.edge_numbers.specs.Premises.{StandAt, others}
use Rattle.edge_numbers.proofs.Reasons.{stand_more}
use Rattle.list_laws.proofs.Places.{contains_at}
use Rattle.end_numbers.specs.Ends.{End}
use Rattle.ground_views.specs.declared.question.Question.{Question}
use Rattle.ground_views.specs.declared.viewed_node.ViewedNode.{ViewedNode}
use Rattle.ground_views.specs.Questions.{IsAskedOf}
use Rattle.ground_views.specs.Views.{FollowAt, IsSeen}
use Rattle.ground_views.proofs.Shapes.{LeadsToNode, first_leads, second_of_method}
use Rattle.tabulation_tables.specs.Lists.{IsBegun, IsEdgeAt, IsLedTo, IsShaped, Lists, edge_to, edges_of, numbered}
use Rattle.tabulation_tables.proofs.Edges.{edge_stands}
use Rattle.tabulation.specs.Kept.{Concludes, HasFollowedAll, HasMetAll, IsReached, LeadsToConclusion, MayBegin}

-- Just these follow from an edge to the end, or from it with another edge.
pub record AreFound (q : Question) (a : End) (others : List Edge) (conclusions : List Conclusion) (entered : List EnteredWith) : Type 0 where
  pub each : (x : Subject) (w : Setting) → IsAskedOf q x w
      → AreFollowing x (gives_listed q.ground.now.methods) (Contains q.ground.now.facts) (transfer_of w) a.method (λ (e : SiteFact). edge_to a e ∷ others) conclusions entered

-- So it is with this method and this spot.
abbrev AreFoundWith : Question → SiteFact → List Edge → List Conclusion → List EnteredWith → Subject → Setting → Option MethodNo → Spot → Type 0
AreFoundWith q f others conclusions entered x w m s =
    AreFollowing x (gives_listed q.ground.now.methods) (Contains q.ground.now.facts) (transfer_of w) m (λ (e : SiteFact). edge m e s f ∷ others) conclusions entered

-- what was found at the node is found of the end
pub found_at : (q : Question) (a : End) (offset : ℕ) → a.spot ≡ spots.Node offset → (k : ViewedNode) → IsSeen q (record { method = a.method; offset = offset }) k → (others : List Edge)
    (conclusions : List Conclusion) (entered : List EnteredWith) → FollowAt q k a.fact others conclusions entered → AreFound q a others conclusions entered
found_at q a offset spot k seen others conclusions entered follow = record {
  each = λ x w asked.
      subst (λ (s : Spot). AreFoundWith q a.fact others conclusions entered x w a.method s) (ap (λ (n : ℕ). spots.Node n) seen.offset ∙ sym spot)
      (subst (λ (m : Option MethodNo). AreFoundWith q a.fact others conclusions entered x w m (before k.node.now)) seen.method (follow.each x w asked));
}

module _ (q : Question) (t : Lists) (n : ℕ) (a : End) (at : slice_get t.ends n ≡ Some a) where
  same_end : (b : End) → slice_get t.ends n ≡ Some b → b ≡ a
  same_end b also = same_Some b a (sym also ∙ at)

  -- a conclusion follows
  pub concludes : (rest : List Edge) (conclusions : List Conclusion) (entered : List EnteredWith) → AreFound q a rest conclusions entered → (exit : Option EdgeNo) (again : Bool)
      → StandAt (edges_of t) (others exit) rest → (c : Conclusion) → Contains conclusions c → Concludes q t (record { end = n; method = a.method; exit = exit; again = again }) c
  concludes rest conclusions entered found exit again stand c there = record {
    end = a;
    end_at = at;
    rest = rest;
    stand = stand;
    follows = λ x w asked entry. (found.each x w asked).within_follow c entry there;
  }

  -- so is that a method begins, of an end that is reached
  pub may_begin : (conclusions : List Conclusion) (entered : List EnteredWith) → AreFound q a [] conclusions entered → IsShaped t → (k : ℕ) → IsReached t k n → (b : EnteredWith)
      → Contains entered b → MayBegin q t k b
  may_begin conclusions entered found shape k reached b there =
      let is = shape.edges reached.begin n (contains_at t.edges k (numbered reached.begin n) reached.at) in
      record {
        follows = λ x w asked. record {
          premises = edge_to a is.begin.fact ∷ [];
          instance = (found.each x w asked).begun_follow b is.begin.fact there;
          stand = stand_more (edges_of t) k (edge_to a is.begin.fact) (edge_stands t k reached.begin n reached.at is.begin a is.begin_at at) [] [] refl;
        };
      }

  led_to : (m : Option MethodNo) (c : Conclusion) (entry : SiteFact) → LeadsToConclusion t n m c → IsLedTo t n entry (within m entry c)
  led_to m c entry is = record { number = is.number; end = _; end_at = is.at; leads = is.leads; is = refl }

  -- all of them were taken in
  pub followed : (conclusions : List Conclusion) (entered : List EnteredWith) → AreFound q a [] conclusions entered → All (LeadsToConclusion t n a.method) conclusions
      → All (λ (b : EnteredWith). IsBegun t n (begun b)) entered → HasFollowedAll q t n
  followed conclusions entered found led began =
      record { followed = λ x w asked. record { end = a; end_at = at; all = λ entry to i. by entry to ((found.each x w asked).all entry to i) } }
    where
      by : (entry : SiteFact) (to : Edge) → IsOneOf a.method entry conclusions entered to → IsLedTo t n entry to ⊎ IsBegun t n to
      by entry to (goes c there) = inl (led_to a.method c entry (All-contains (LeadsToConclusion t n a.method) conclusions c led there))
      by entry to (begins b there) = inr (All-contains (λ (b : EnteredWith). IsBegun t n (begun b)) entered b began there)

  -- nothing follows where the end is no node of its method
  pub followed_none : ((x : Subject) (w : Setting) → IsAskedOf q x w → (entry : SiteFact) → LeadsToNode x (gives_listed q.ground.now.methods) (edge_to a entry) → ⊥) → HasFollowedAll q t n
  followed_none never = record {
    followed = λ x w asked. record {
      end = a;
      end_at = at;
      all = λ entry to i. absurd (never x w asked entry (first_leads x (gives_listed q.ground.now.methods) (Contains q.ground.now.facts) (transfer_of w) (edge_to a entry) [] to i));
    };
  }

-- ---- callers and exits

module _ (q : Question) (t : Lists) (b c k last : ℕ) (begin caller exit : End) (edge_at : IsEdgeAt t k b last) (begin_at : slice_get t.ends b ≡ Some begin)
    (caller_at : slice_get t.ends c ≡ Some caller) (exit_at : slice_get t.ends last ≡ Some exit) where
  pub met : (conclusions : List Conclusion) → AreFound q caller (edge_to exit begin.fact ∷ []) conclusions [] → All (LeadsToConclusion t c caller.method) conclusions → HasMetAll q t b c k
  met conclusions found led = record {
    met = λ x w asked. record {
      last = last;
      edge_at = edge_at;
      begin = begin;
      caller = caller;
      exit = exit;
      begin_at = begin_at;
      caller_at = caller_at;
      exit_at = exit_at;
      all = λ entry to i. by entry to ((found.each x w asked).all entry to i);
    };
  }
    where
      by : (entry : SiteFact) (to : Edge) → IsOneOf caller.method entry conclusions [] to → IsLedTo t c entry to
      by entry to (goes d there) = led_to q t c caller caller_at caller.method d entry (All-contains (LeadsToConclusion t c caller.method) conclusions d led there)
      by entry to (begins d there) = absurd (contains_none d there)

  pub met_none : ((x : Subject) (w : Setting) → IsAskedOf q x w → (entry : SiteFact) → LeadsToNode x (gives_listed q.ground.now.methods) (edge_to caller entry) → ⊥) → HasMetAll q t b c k
  met_none never = record {
    met = λ x w asked. record {
      last = last;
      edge_at = edge_at;
      begin = begin;
      caller = caller;
      exit = exit;
      begin_at = begin_at;
      caller_at = caller_at;
      exit_at = exit_at;
      all = λ entry to i.
          absurd (never x w asked entry
          (first_leads x (gives_listed q.ground.now.methods) (Contains q.ground.now.facts) (transfer_of w) (edge_to caller entry) (edge_to exit begin.fact ∷ []) to i));
    };
  }

  -- the start of the program has no callers
  pub met_start : exit.method ≡ None → HasMetAll q t b c k
  met_start none = record {
    met = λ x w asked. record {
      last = last;
      edge_at = edge_at;
      begin = begin;
      caller = caller;
      exit = exit;
      begin_at = begin_at;
      caller_at = caller_at;
      exit_at = exit_at;
      all = λ entry to i.
          let is = second_of_method x (gives_listed q.ground.now.methods) (Contains q.ground.now.facts) (transfer_of w) (edge_to caller entry) (edge_to exit begin.fact) to i in
          absurd (none-some is.0 (sym none ∙ is.1));
    };
  }

-- ---- no node

same_offset : (y z : ℕ) → spots.Node y ≡ spots.Node z → y ≡ z
same_offset y z is = cc

pub no_node_at : (q : Question) (a : End) (offset : ℕ) → a.spot ≡ spots.Node offset
    → ((x : Subject) (w : Setting) → IsAskedOf q x w → (l : LoweredMethod) (n : Node) → IsNode x (gives_listed q.ground.now.methods) a.method l n → n.offset ≡ offset → ⊥) → (x : Subject)
    (w : Setting) → IsAskedOf q x w → (entry : SiteFact) → LeadsToNode x (gives_listed q.ground.now.methods) (edge_to a entry) → ⊥
no_node_at q a offset spot never x w asked entry there = never x w asked there.method there.node there.stands (same_offset there.node.offset offset (sym there.spot ∙ spot))

pub no_node_by : (q : Question) (a : End) → ((offset : ℕ) → a.spot ≡ spots.Node offset → ⊥) → (x : Subject) (w : Setting) → IsAskedOf q x w → (entry : SiteFact)
    → LeadsToNode x (gives_listed q.ground.now.methods) (edge_to a entry) → ⊥
no_node_by q a never x w asked entry there = never there.node.offset there.spot
