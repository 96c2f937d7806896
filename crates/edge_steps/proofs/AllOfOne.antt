-- By a rule with one premise, an edge to the node that is looked at, nothing else follows.
use Rattle.std.proofs.Common.{◌≡◌, ◌↔◌, inl, inr, ℕ, List, [], ◌∷◌, map, Option, Some, refl, sym, ◌∙◌, subst}
use Rattle.std.specs.List.{Contains}
use Rattle.list_laws.proofs.Members.{contained_in_map, contains_map}
use Rattle.jvm_model.specs.declared.number.MethodNo.{MethodNo}
use Rattle.jvm_model.specs.declared.stub.StubMethod.{StubMethod}
use Rattle.jvm_model.specs.declared.stub.StubResult.{StubResult}
use Rattle.op_model.specs.declared.lowered.LoweredMethod.{LoweredMethod}
use Rattle.op_model.specs.declared.node.Node.{Node}
use Rattle.op_model.specs.declared.node.Spot.{Spot}
use Rattle.op_model.specs.declared.node.Spot.TheVariants as spots
use Rattle.op_model.specs.declared.op.Call.{Call as NodeCall}
use Rattle.op_model.specs.declared.op.Op.TheVariants.{Call}
use Rattle.op_model.specs.Supplies.{GivenAs}
use Rattle.machine_bytecode.specs.Objects.{Subject}
use Rattle.points_to_rules.specs.Facts.{Fact, may_call}
use Rattle.stage_facts.specs.Facts.{SiteFact}
use Rattle.stage_transfer.specs.Calls.{Entering, by_call, by_trigger}
use Rattle.stage_transfer.specs.Settings.{Setting}
use Rattle.stage_transfer.specs.Stages.{Transfer, transfer_of}
use Rattle.stage_views.specs.declared.setting.StageSetting.{StageSetting}
use Rattle.stage_views.specs.Views.{IsSettingBy}
use Rattle.stage_edges.specs.Rules.{Edge, Enters, GoesTo, Instance, IsNode, IsStub, ThrowsClass, before, node_at, edge as edge_of, given_by, kept_slots, answers, call_returns, called, described_raises, enters, goes_on, raises, resumes, returns, start, triggered, unwinds}
use Rattle.node_ways.specs.declared.ways.NodeWays.{NodeWays}
use Rattle.node_ways.specs.Ways.{result_of}
use Rattle.edge_steps.specs.declared.conclusions.Conclusion.{Conclusion}
use Rattle.edge_steps.specs.declared.conclusions.EnteredWith.{EnteredWith}
use Rattle.edge_steps.specs.Parts.{Calls, Described, Done, IsAt, IsBegun, IsReturn, OneAt, Raised, Starts, landing}
use Rattle.edge_steps.specs.Parts as parts
use Rattle.edge_steps.specs.Steps.{AreFollowing, IsLookedAt, IsOneOf, StandsFor, begun, within}
use Rattle.edge_steps.proofs.Facts.{concluded, plain, plain_is}
use Rattle.edge_steps.proofs.Transfers.{enters_same, into, is_landing, results_same}
use Rattle.edge_steps.proofs.OnePremise.{Begins, Goes, begins_follows, goes_follows, offset_same}

module _ (x : Subject) (gives : GivenAs) (S : Fact → Type 0) (w : Setting) (s : StageSetting) (Knows : Setting → LoweredMethod → Node → Type 0) (o : Node) (ways : NodeWays)
    (like : IsSettingBy s w) (conclusions : List Conclusion) (methods : List EnteredWith) where
  -- these are listed
  pub record AreListed (m : Option MethodNo) (f : SiteFact) : Type 0 where
    pub conclusions_are : (v : Setting) (k : LoweredMethod) → IsSettingBy s v → Knows v k o → (c : Conclusion) → Contains conclusions c ↔ Goes (transfer_of v) k m o ways f c
    pub methods_are : (v : Setting) (k : LoweredMethod) → IsSettingBy s v → Knows v k o → (b : EnteredWith) → Contains methods b ↔ Begins (transfer_of v) k o ways f b

  abbrev FromOne : List Edge → Edge → Type 0
  FromOne [] to = Unit {0}
  FromOne (first ∷ []) to =
      IsLookedAt x gives S w s Knows first.method o ways → first.spot ≡ before o → AreListed first.method first.fact → IsOneOf first.method first.entry conclusions methods to
  FromOne (first ∷ second ∷ rest) to = Unit {0}

  module _ (m : Option MethodNo) (l : LoweredMethod) (n : Node) (e f : SiteFact) (node : IsNode x gives m l n) (looked : IsLookedAt x gives S w s Knows m o ways)
      (same_spot : before n ≡ before o) (listed : AreListed m f) where
    abbrev near : n.offset ≡ o.offset
    near = offset_same n o same_spot

    abbrev stands : StandsFor x S w s Knows m o ways l n
    stands = looked.each l n node near

    abbrev t : Transfer
    t = transfer_of w

    abbrev u : Transfer
    u = transfer_of stands.setting

    abbrev k : LoweredMethod
    k = stands.lowered

    goes : (spot : Spot) (g : SiteFact) → Goes u k m o ways f (concluded spot g) → IsOneOf m e conclusions methods (edge_of m e spot g)
    goes spot g which =
        subst (λ (h : SiteFact). IsOneOf m e conclusions methods (edge_of m e spot h)) (plain_is g)
        (IsOneOf.goes (concluded spot g) ((listed.conclusions_are stands.setting k stands.like stands.known (concluded spot g)).1 which))

    begins : (target : MethodNo) (g : SiteFact) → Begins u k o ways f (record { method = target; fact = plain g })
        → IsOneOf m e conclusions methods (edge_of (Some target) g (spots.Node 0) g)
    begins target g which =
        subst (λ (h : SiteFact). IsOneOf m e conclusions methods (edge_of (Some target) h (spots.Node 0) h)) (plain_is g)
        (IsOneOf.begins (record { method = target; fact = plain g })
        ((listed.methods_are stands.setting k stands.like stands.known (record { method = target; fact = plain g })).1 which))

    at : (spot : Spot) (g : SiteFact) (place : Spot) → spot ≡ place → IsAt place g (concluded spot g)
    at spot g place same = record { at = same; is = plain_is g }

    done : (spot : Spot) (g : SiteFact) → Done u k m o ways f (concluded spot g) → IsOneOf m e conclusions methods (edge_of m e spot g)
    done spot g which = goes spot g (inl which)

    on : (g : SiteFact) (offset : ℕ) → ((call : NodeCall) → n.op ≡ Call call → ⊥) → Contains n.successors offset → Contains (t.next l n f) g
        → IsOneOf m e conclusions methods (edge_of m e (spots.Node offset) g)
    on g offset no_call there next =
        done (spots.Node offset) g
        (parts.passes (λ call is. no_call call (stands.op ∙ is)) (
          offset,
          into n.successors o.successors offset stands.successors there,
          (g, into (t.next l n f) (u.next k o f) g (sym (stands.same.next f)) next, at (spots.Node offset) g (spots.Node offset) refl),
        ))

    out : (g : SiteFact) → IsReturn n.op → Contains (t.next l n f) g → IsOneOf m e conclusions methods (edge_of m e spots.Returned g)
    out g is next =
        done spots.Returned g
        (parts.leaves (record { value = is.value; is_return = sym stands.op ∙ is.is_return })
        (g, into (t.next l n f) (u.next k o f) g (sym (stands.same.next f)) next, at spots.Returned g spots.Returned refl))

    thrown : (g : SiteFact) (class : List ℕ) (handler : Option ℕ) (spot : Spot) → ThrowsClass x S l n class → GoesTo x n class handler spot → Contains (t.raise l n handler f) g
        → IsOneOf m e conclusions methods (edge_of m e spot g)
    thrown g class handler spot throws to raised =
        let landing_is = is_landing x n (ThrowsClass x S l n) ways.raised.items stands.are_ways.raised class handler spot throws to in
        goes spot g (inr (
          handler,
          landing_is.0,
          (g, into (t.raise l n handler f) (u.raise k o handler f) g (sym (stands.same.raise handler f)) raised, at spot g (landing handler) landing_is.1),
        ))

    call_is : (c : NodeCall) → n.op ≡ Call c → o.op ≡ Call c
    call_is c is = sym stands.op ∙ is

    sends_too : (c : NodeCall) (sent : SiteFact) → n.op ≡ Call c → Contains (t.event l n c f) sent → Contains (u.event k o c f) sent
    sends_too c sent is sends = into (t.event l n c f) (u.event k o c f) sent (sym (stands.same.event c f (call_is c is))) sends

    given : (sent g : SiteFact) (c : NodeCall) (target : MethodNo) (stub : StubMethod) (parameters : List (List ℕ)) (result : StubResult) (offset : ℕ) → n.op ≡ Call c
        → S (may_call (node_at m n) target) → IsStub x target stub parameters → Contains stub.returns result → Contains n.successors offset → Contains (t.event l n c f) sent
        → Contains (t.answer l n c (kept_slots c stub parameters) (given_by m n c stub parameters result) sent) g
        → IsOneOf m e conclusions methods (edge_of m e (spots.Node offset) g)
    given sent g c target stub parameters result offset is to is_stub returned there sends answered =
        let kept = kept_slots c stub parameters in
        let found = stands.are_ways.described.all c target stub parameters is to is_stub in
        let d = found.0 in
        let described = found.2 in
        let among : Contains (map (result_of m n) d.results.items) (given_by m n c stub parameters result) =
        into (map (given_by m n c stub parameters) stub.returns) (map (result_of m n) d.results.items) (given_by m n c stub parameters result) (sym described.results)
        (contains_map (given_by m n c stub parameters) stub.returns result returned) in
        let listed_result = contained_in_map (result_of m n) d.results.items (given_by m n c stub parameters result) among in
        let r = listed_result.0 in
        let path : t.answer l n c kept (given_by m n c stub parameters result) sent ≡ u.answer k o c d.kept.items (result_of m o r) sent =
        (λ i. t.answer l n c (sym described.kept i) ((sym listed_result.2 ∙ sym (results_same m n o near r)) i) sent)
        ∙ sym (stands.same.answer c d.kept.items (result_of m o r) sent (call_is c is)) in
        done (spots.Node offset) g
        (parts.answers c (call_is c is) (
          sent,
          sends_too c sent is sends,
          (
            d,
            found.1,
            inl (
              r,
              listed_result.1,
              (
                offset,
                into n.successors o.successors offset stands.successors there,
                (g, into _ _ g path answered, at (spots.Node offset) g (spots.Node offset) refl),
              ),
            ),
          ),
        ))

    excepted : (sent g : SiteFact) (c : NodeCall) (target : MethodNo) (stub : StubMethod) (parameters : List (List ℕ)) (class : List ℕ) (handler : Option ℕ) (spot : Spot)
        → n.op ≡ Call c → S (may_call (node_at m n) target) → IsStub x target stub parameters → Contains stub.throws class → GoesTo x n class handler spot
        → Contains (t.event l n c f) sent → Contains (t.exception l n (kept_slots c stub parameters) handler sent) g
        → IsOneOf m e conclusions methods (edge_of m e spot g)
    excepted sent g c target stub parameters class handler spot is to is_stub throws lands sends raised =
        let kept = kept_slots c stub parameters in
        let found = stands.are_ways.described.all c target stub parameters is to is_stub in
        let d = found.0 in
        let described = found.2 in
        let landing_is = is_landing x n (Contains stub.throws) d.landings.items described.landings class handler spot throws lands in
        let path : t.exception l n kept handler sent ≡ u.exception k o d.kept.items handler sent =
        (λ i. t.exception l n (sym described.kept i) handler sent) ∙ sym (stands.same.exception d.kept.items handler sent) in
        done spot g
        (parts.answers c (call_is c is) (
          sent,
          sends_too c sent is sends,
          (d, found.1, inr (handler, landing_is.0, (g, into _ _ g path raised, at spot g (landing handler) landing_is.1))),
        ))

    begun_by : (target : MethodNo) (by : Entering) (sent : SiteFact) → Enters x S t m l n target f by sent
        → IsOneOf m e conclusions methods (edge_of (Some target) (t.enter by sent) (spots.Node 0) (t.enter by sent))
    begun_by target by sent (called c g is to of_file sends) =
        let found = stands.are_ways.called.all target (record { call = c; is_call = is; goes = to; of_file = of_file }) in
        begins target (t.enter (by_call c) g)
        (inl (parts.calls c (call_is c is) (
          g,
          sends_too c g is sends,
          (found.0, found.1, record { method = sym found.2; is = plain_is (t.enter (by_call c) g) ∙ enters_same s w stands.setting like stands.like (by_call c) g }),
        )))
    begun_by target by sent (triggered starts) =
        let found = stands.are_ways.started.all target starts in
        begins target (t.enter by_trigger f)
        (inr (found.0, found.1, record { method = sym found.2; is = plain_is (t.enter by_trigger f) ∙ enters_same s w stands.setting like stands.like by_trigger f }))

  from_one : (premises : List Edge) (to : Edge) → Instance x gives S (transfer_of w) premises to → FromOne premises to
  from_one premises to start = tt
  from_one premises to (goes_on m l n e f g offset node no_call there next) = λ looked same listed. on m l n e f node looked same listed g offset no_call there next
  from_one premises to (returns m l n e f g value node is next) =
      λ looked same listed. out m l n e f node looked same listed g (record { value = value; is_return = is }) next
  from_one premises to (raises m l n e f g class handler spot node throws lands raised) =
      λ looked same listed. thrown m l n e f node looked same listed g class handler spot throws lands raised
  from_one premises to (answers m l n e f sent g c target stub parameters result offset node is goes is_stub returned there sends answered) =
      λ looked same listed. given m l n e f node looked same listed sent g c target stub parameters result offset is goes is_stub returned there sends answered
  from_one premises to (described_raises m l n e f sent g c target stub parameters class handler spot node is goes is_stub throws lands sends raised) =
      λ looked same listed. excepted m l n e f node looked same listed sent g c target stub parameters class handler spot is goes is_stub throws lands sends raised
  from_one premises to (enters m l n e f sent target by node into_method) = λ looked same listed. begun_by m l n e f node looked same listed target by sent into_method
  from_one premises to (call_returns m l n e f sent out g target c offset node into_method there next) = tt
  from_one premises to (resumes m l n e f out target exit node starts is) = tt
  from_one premises to (unwinds m l n e f sent out g target by class handler spot node into_method throws lands raised) = tt

  module _ (m : Option MethodNo) (f : SiteFact) (looked : IsLookedAt x gives S w s Knows m o ways) where
    abbrev there : StandsFor x S w s Knows m o ways looked.method looked.node
    there = looked.each looked.method looked.node looked.stands looked.at

    from_node : (e : SiteFact) (to : Edge) → Instance x gives S (transfer_of w) (edge_of m e (before looked.node) f ∷ []) to
        → Instance x gives S (transfer_of w) (edge_of m e (before o) f ∷ []) to
    from_node e to = subst (λ (offset : ℕ). Instance x gives S (transfer_of w) (edge_of m e (spots.Node offset) f ∷ []) to) looked.at

    pub one_follows : AreListed m f → AreFollowing x gives S (transfer_of w) m (λ (e : SiteFact). edge_of m e (before o) f ∷ []) conclusions methods
    one_follows listed = record {
      within_follow = λ c e among.
          from_node e (within m e c)
          (goes_follows x gives S w s Knows m o ways looked.method looked.node looked.stands like looked.at there e f c
          ((listed.conclusions_are there.setting there.lowered there.like there.known c).0 among));
      begun_follow = λ b e among.
          from_node e (begun b)
          (begins_follows x gives S w s Knows m o ways looked.method looked.node looked.stands like looked.at there e f b
          ((listed.methods_are there.setting there.lowered there.like there.known b).0 among));
      all = λ e to instance. from_one (edge_of m e (before o) f ∷ []) to instance looked refl listed;
    }
