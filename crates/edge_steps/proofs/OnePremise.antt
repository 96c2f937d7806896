-- By a rule with one premise, an edge to the node that is looked at, what Parts says follows.
use Rattle.std.proofs.Common.{◌≡◌, ◌⊎◌, inl, inr, [], ◌∷◌, map, Option, Some, sym, ◌∙◌, subst}
use Rattle.std.specs.List.{Contains}
use Rattle.list_laws.proofs.Members.{contained_in_map, contains_map}
use Rattle.jvm_model.specs.declared.number.MethodNo.{MethodNo}
use Rattle.op_model.specs.declared.lowered.LoweredMethod.{LoweredMethod}
use Rattle.op_model.specs.declared.node.Node.{Node}
use Rattle.op_model.specs.declared.node.Spot.{Spot}
use Rattle.op_model.specs.declared.node.Spot.TheVariants as spots
use Rattle.op_model.specs.declared.op.Call.{Call as NodeCall}
use Rattle.op_model.specs.declared.op.Op.TheVariants.{Call}
use Rattle.op_model.specs.Supplies.{GivenAs}
use Rattle.machine_bytecode.specs.Objects.{Subject}
use Rattle.points_to_rules.specs.Facts.{Fact}
use Rattle.stage_facts.specs.Facts.{SiteFact}
use Rattle.stage_facts.specs.Plain.{fact_of}
use Rattle.stage_transfer.specs.Calls.{Entering, by_call, by_trigger}
use Rattle.stage_transfer.specs.Settings.{Setting}
use Rattle.stage_transfer.specs.Stages.{Transfer, transfer_of}
use Rattle.stage_views.specs.declared.setting.StageSetting.{StageSetting}
use Rattle.stage_views.specs.Views.{IsSettingBy}
use Rattle.stage_edges.specs.Rules.{Edge, Enters, Instance, IsNode, before, edge as edge_of, given_by, kept_slots, answers, called, described_raises, enters, goes_on, raises, returns, triggered}
use Rattle.ground.specs.Added.{OfOne}
use Rattle.node_ways.specs.declared.ways.DescribedTarget.{DescribedTarget}
use Rattle.node_ways.specs.declared.ways.EnteredMethod.{EnteredMethod}
use Rattle.node_ways.specs.declared.ways.NodeWays.{NodeWays}
use Rattle.node_ways.specs.Ways.{IsDescribed, result_of}
use Rattle.edge_steps.specs.declared.conclusions.Conclusion.{Conclusion}
use Rattle.edge_steps.specs.declared.conclusions.EnteredWith.{EnteredWith}
use Rattle.edge_steps.specs.Parts.{Calls, Described, Done, IsAt, IsBegun, IsReturn, OneAt, Raised, Starts, landing}
use Rattle.edge_steps.specs.Parts as parts
use Rattle.edge_steps.specs.Steps.{StandsFor, begun, within}
use Rattle.edge_steps.proofs.Transfers.{LandsAt, enters_same, into, lands_at, results_same}

-- what a node does, or throws itself
abbrev pub Goes : Transfer → LoweredMethod → Option MethodNo → Node → NodeWays → SiteFact → Conclusion → Type 0
Goes t l m n ways f c = Done t l m n ways f c ⊎ OfOne (Raised t l n f) ways.raised.items c

-- what it calls, or starts
abbrev pub Begins : Transfer → LoweredMethod → Node → NodeWays → SiteFact → EnteredWith → Type 0
Begins t l n ways f b = Calls t l n ways f b ⊎ Starts t ways f b

call_same : (n o : Node) (c d : NodeCall) → n.op ≡ o.op → n.op ≡ Call c → o.op ≡ Call d → c ≡ d
call_same n o c d same first second = let e : Call c ≡ Call d = sym first ∙ same ∙ second in cc

pub offset_same : (n o : Node) → before n ≡ before o → n.offset ≡ o.offset
offset_same n o same = cc

-- ---- what Parts says follows

module _ (x : Subject) (gives : GivenAs) (S : Fact → Type 0) (w : Setting) (s : StageSetting) (Knows : Setting → LoweredMethod → Node → Type 0) (m : Option MethodNo)
    (o : Node) (ways : NodeWays) (l : LoweredMethod) (n : Node) (node : IsNode x gives m l n) (like : IsSettingBy s w) (at_same : n.offset ≡ o.offset)
    (stands : StandsFor x S w s Knows m o ways l n) (e f : SiteFact) where
  abbrev t : Transfer
  t = transfer_of w

  abbrev u : Transfer
  u = transfer_of stands.setting

  abbrev k : LoweredMethod
  k = stands.lowered

  abbrev From : Edge → Type 0
  From to = Instance x gives S t (edge_of m e (before n) f ∷ []) to

  moved : (spot : Spot) (g : SiteFact) (c : Conclusion) → IsAt spot g c → From (edge_of m e spot g) → From (within m e c)
  moved spot g c at from = subst From (λ i. edge_of m e (sym at.at i) (sym at.is i)) from

  described_follows : (call : NodeCall) → o.op ≡ Call call → (sent : SiteFact) → Contains (u.event k o call f) sent → (d : DescribedTarget) → Contains ways.described.items d
      → (c : Conclusion) → Described u k m o call sent d c → From (within m e c)
  described_follows call is_call sent sends d there c which =
      let only = stands.are_ways.described.only d there in
      let target = only.1 in
      let stub = only.2 in
      let parameters = only.3 in
      let found = only.4 in
      let same : only.0 ≡ call = call_same n o only.0 call stands.op found.is_call is_call in
      let described : IsDescribed x S m n call target stub parameters d = subst (λ (z : NodeCall). IsDescribed x S m n z target stub parameters d) same found in
      let sends_too : Contains (t.event l n call f) sent = into (u.event k o call f) (t.event l n call f) sent (stands.same.event call f is_call) sends in
      let kept = kept_slots call stub parameters in
      elim which [
        | inl (r, among, (offset, near, (g, listed, at))) ↦
            let given : Contains (map (given_by m n call stub parameters) stub.returns) (result_of m n r) =
            into (map (result_of m n) d.results.items) (map (given_by m n call stub parameters) stub.returns) (result_of m n r) described.results
            (contains_map (result_of m n) d.results.items r among) in
            let listed_result = contained_in_map (given_by m n call stub parameters) stub.returns (result_of m n r) given in
            let result = listed_result.0 in
            let returned = listed_result.1 in
            let is_given = listed_result.2 in
            let path : u.answer k o call d.kept.items (result_of m o r) sent ≡ t.answer l n call kept (given_by m n call stub parameters result) sent =
            stands.same.answer call d.kept.items (result_of m o r) sent is_call
            ∙ (λ i. t.answer l n call (described.kept i) ((results_same m n o at_same r ∙ sym is_given) i) sent) in
            moved (spots.Node offset) g c at
            (answers m l n e f sent g call target stub parameters result offset node described.is_call described.goes described.is_stub returned
            (into o.successors n.successors offset (sym stands.successors) near) sends_too (into _ _ g path listed))
        | inr (handler, among, (g, listed, at)) ↦
            let lands : LandsAt x n (Contains stub.throws) handler = lands_at x n (Contains stub.throws) d.landings.items described.landings handler among in
            let path : u.exception k o d.kept.items handler sent ≡ t.exception l n kept handler sent =
            stands.same.exception d.kept.items handler sent ∙ (λ i. t.exception l n (described.kept i) handler sent) in
            moved (landing handler) g c at
            (described_raises m l n e f sent g call target stub parameters lands.class handler (landing handler) node described.is_call described.goes described.is_stub
            lands.thrown lands.goes sends_too (into _ _ g path listed))
      ]

  done_follows : (c : Conclusion) → Done u k m o ways f c → From (within m e c)
  done_follows c (parts.passes no_call (offset, near, (g, listed, at))) =
      moved (spots.Node offset) g c at
      (goes_on m l n e f g offset node (λ call is. no_call call (sym stands.op ∙ is)) (into o.successors n.successors offset (sym stands.successors) near)
      (into (u.next k o f) (t.next l n f) g (stands.same.next f) listed))
  done_follows c (parts.leaves is (g, listed, at)) =
      moved spots.Returned g c at
      (returns m l n e f g is.value node (stands.op ∙ is.is_return) (into (u.next k o f) (t.next l n f) g (stands.same.next f) listed))
  done_follows c (parts.answers call is_call (sent, sends, (d, there, which))) = described_follows call is_call sent sends d there c which

  pub goes_follows : (c : Conclusion) → Goes u k m o ways f c → From (within m e c)
  goes_follows c (inl done) = done_follows c done
  goes_follows c (inr (handler, there, (g, listed, at))) =
      let lands = lands_at x n _ ways.raised.items stands.are_ways.raised handler there in
      moved (landing handler) g c at
      (raises m l n e f g lands.class handler (landing handler) node lands.thrown lands.goes (into (u.raise k o handler f) (t.raise l n handler f) g (stands.same.raise handler f) listed))

  entered : (by : Entering) (sent : SiteFact) (v : EnteredMethod) (b : EnteredWith) → IsBegun (u.enter by sent) v b → Enters x S t m l n v.method f by sent → From (begun b)
  entered by sent v b is into_method =
      let fact : t.enter by sent ≡ fact_of b.fact = enters_same s w stands.setting like stands.like by sent ∙ sym is.is in
      subst From (λ i. edge_of (Some (sym is.method i)) (fact i) (spots.Node 0) (fact i)) (enters m l n e f sent v.method by node into_method)

  pub begins_follows : (b : EnteredWith) → Begins u k o ways f b → From (begun b)
  begins_follows b (inl (parts.calls call is_call (sent, sends, (v, there, is)))) =
      let target = (stands.are_ways.called.only v there).0 in
      entered (by_call call) sent v b is
      (called call sent (stands.op ∙ is_call) target.goes target.of_file (into (u.event k o call f) (t.event l n call f) sent (stands.same.event call f is_call) sends))
  begins_follows b (inr (v, there, is)) = entered by_trigger f v b is (triggered (stands.are_ways.started.only v there).0)
