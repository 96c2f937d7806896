-- By a rule with two premises, an edge to the node that is looked at and one to a spot of a method, nothing else follows.
use Rattle.std.proofs.Common.{◌≡◌, ◌↔◌, inl, inr, ℕ, List, [], ◌∷◌, Option, Some, refl, sym, ap, ◌∙◌, subst}
use Rattle.std.specs.List.{Contains}
use Rattle.std.proofs.lemmas.Option.{same_Some}
use Rattle.list_laws.proofs.Members.{contains_none}
use Rattle.jvm_model.specs.declared.number.MethodNo.{MethodNo}
use Rattle.op_model.specs.declared.lowered.LoweredMethod.{LoweredMethod}
use Rattle.op_model.specs.declared.node.Node.{Node}
use Rattle.op_model.specs.declared.node.Spot.{Spot}
use Rattle.op_model.specs.declared.node.Spot.TheVariants as spots
use Rattle.op_model.specs.declared.op.Call.{Call as NodeCall}
use Rattle.op_model.specs.declared.op.Op.TheVariants.{Call}
use Rattle.op_model.specs.Supplies.{GivenAs}
use Rattle.machine_bytecode.specs.Objects.{Subject}
use Rattle.points_to_rules.specs.Facts.{Fact}
use Rattle.points_to_rules.specs.Rules.{StartsAt}
use Rattle.ground.specs.Added.{OfOne}
use Rattle.stage_facts.specs.Facts.{SiteFact}
use Rattle.stage_transfer.specs.Calls.{Entering, by_call, by_trigger}
use Rattle.stage_transfer.specs.Settings.{Setting}
use Rattle.stage_transfer.specs.Stages.{Transfer, transfer_of}
use Rattle.stage_views.specs.declared.setting.StageSetting.{StageSetting}
use Rattle.stage_views.specs.Views.{IsSettingBy}
use Rattle.stage_edges.specs.Rules.{Edge, Enters, GoesTo, Instance, IsExit, IsNode, MayThrow, before, edge as edge_of, answers, call_returns, described_raises, enters, goes_on, raises, resumes, returns, start, triggered, unwinds}
use Rattle.node_ways.specs.declared.ways.EnteredMethod.{EnteredMethod}
use Rattle.node_ways.specs.declared.ways.NodeWays.{NodeWays}
use Rattle.node_ways.specs.Ways.{AreEntered, AreLandings, IsCalled}
use Rattle.edge_steps.specs.declared.conclusions.Conclusion.{Conclusion}
use Rattle.edge_steps.specs.Parts.{After, AfterThrow, IsAt, LeavesCall, LeavesTrigger, LeftOne, OneAtEach, Raised, landing}
use Rattle.edge_steps.specs.Parts as parts
use Rattle.edge_steps.specs.Steps.{AreFollowing, IsLookedAt, IsOneOf, StandsFor, within}
use Rattle.edge_steps.proofs.Facts.{concluded, plain_is}
use Rattle.edge_steps.proofs.OnePremise.{offset_same}
use Rattle.edge_steps.proofs.Transfers.{enters_same, into, is_landing}
use Rattle.edge_steps.proofs.TwoPremises.{Leaves, by_a_call, by_a_trigger, leaves_follows}

module _ (x : Subject) (gives : GivenAs) (S : Fact → Type 0) (w : Setting) (s : StageSetting) (Knows : Setting → LoweredMethod → Node → Type 0) (o : Node) (ways : NodeWays)
    (like : IsSettingBy s w) (conclusions : List Conclusion) where
  -- these are listed
  pub record AreListed (f : SiteFact) (target : MethodNo) (entry : SiteFact) (spot : Spot) (out : SiteFact) : Type 0 where
    pub conclusions_are : (v : Setting) (k : LoweredMethod) → IsSettingBy s v → Knows v k o → (c : Conclusion)
        → Contains conclusions c ↔ Leaves (transfer_of v) k o ways f target entry spot out c

  abbrev FromTwo : List Edge → Edge → Type 0
  FromTwo [] to = Unit {0}
  FromTwo (first ∷ []) to = Unit {0}
  FromTwo (first ∷ second ∷ []) to =
      IsLookedAt x gives S w s Knows first.method o ways → first.spot ≡ before o
      → ((target : MethodNo) → second.method ≡ Some target → AreListed first.fact target second.entry second.spot second.fact)
      → IsOneOf first.method first.entry conclusions [] to
  FromTwo (first ∷ second ∷ third ∷ rest) to = Unit {0}

  module _ (m : Option MethodNo) (l : LoweredMethod) (n : Node) (e f : SiteFact) (node : IsNode x gives m l n) (looked : IsLookedAt x gives S w s Knows m o ways)
      (same_spot : before n ≡ before o) (target : MethodNo) (out : SiteFact) where
    abbrev near : n.offset ≡ o.offset
    near = offset_same n o same_spot

    abbrev stands : StandsFor x S w s Knows m o ways l n
    stands = looked.each l n node near

    abbrev t : Transfer
    t = transfer_of w

    abbrev u : Transfer
    u = transfer_of stands.setting

    abbrev k : LoweredMethod
    k = stands.lowered

    left : (entry : SiteFact) (spot : Spot) → AreListed f target entry spot out → (place : Spot) (g : SiteFact) → Leaves u k o ways f target entry spot out (concluded place g)
        → IsOneOf m e conclusions [] (edge_of m e place g)
    left entry spot listed place g which =
        subst (λ (h : SiteFact). IsOneOf m e conclusions [] (edge_of m e place h)) (plain_is g)
        (IsOneOf.goes (concluded place g) ((listed.conclusions_are stands.setting k stands.like stands.known (concluded place g)).1 which))

    at : (place : Spot) (g : SiteFact) (there : Spot) → place ≡ there → IsAt there g (concluded place g)
    at place g there same = record { at = same; is = plain_is g }

    left_same : (by : Entering) (sent : SiteFact) → t.leave l n by target sent out ≡ u.leave k o by target sent out
    left_same by sent = sym (stands.same.leave by target sent out)

    enter_same : (by : Entering) (sent : SiteFact) → u.enter by sent ≡ t.enter by sent
    enter_same by sent = sym (enters_same s w stands.setting like stands.like by sent)

    -- what is known where the method has ended
    abbrev Ended : Entering → SiteFact → Spot → Conclusion → Type 0
    Ended by sent spot conclusion =
        (landings : List (Option ℕ)) → AreLandings x n (MayThrow S target) landings → After u k o by landings (u.leave k o by target sent out) spot conclusion

    -- the method is one of those that are entered
    left_one : (by : Entering) (sent : SiteFact) (spot : Spot) (IsTarget : MethodNo → Type 0) (methods : List EnteredMethod) → AreEntered x S n IsTarget methods → IsTarget target
        → (conclusion : Conclusion) → Ended by sent spot conclusion → LeftOne u k o by target (t.enter by sent) spot out methods sent conclusion
    left_one by sent spot IsTarget methods entered is conclusion ended =
        let found = entered.all target is in
        let are = subst (λ (m' : MethodNo). AreLandings x n (MayThrow S m') found.0.landings.items) found.2 (entered.only found.0 found.1).1 in
        (found.0, found.1, (found.2, (enter_same by sent, ended found.0.landings.items are)))

    entered_left : (by : Entering) (sent : SiteFact) (spot : Spot) → AreListed f target (t.enter by sent) spot out → Enters x S t m l n target f by sent → (place : Spot) (g : SiteFact)
        → Ended by sent spot (concluded place g) → IsOneOf m e conclusions [] (edge_of m e place g)
    entered_left (by_call c) sent spot listed into_method place g ended =
        let call = by_a_call x S t m l n target f c sent into_method in
        let call_is : o.op ≡ Call c = sym stands.op ∙ call.is_call in
        left (t.enter (by_call c) sent) spot listed place g
        (inl (parts.ends c call_is (
          sent,
          into (t.event l n c f) (u.event k o c f) sent (sym (stands.same.event c f call_is)) call.sends,
          left_one (by_call c) sent spot (IsCalled x S m n) ways.called.items stands.are_ways.called
              (record { call = c; is_call = call.is_call; goes = call.goes; of_file = call.of_file }) (concluded place g) ended,
        )))
    entered_left by_trigger sent spot listed into_method place g ended =
        let start = by_a_trigger x S t m l n target f sent into_method in
        left (t.enter by_trigger sent) spot listed place g
        (inr (subst (λ (h : SiteFact). LeftOne u k o by_trigger target (t.enter by_trigger sent) spot out ways.started.items h (concluded place g)) start.0
        (left_one by_trigger sent spot (StartsAt x.program n) ways.started.items stands.are_ways.started start.1 (concluded place g) ended)))

    landed : (by : Entering) (sent g : SiteFact) (class : List ℕ) (handler : Option ℕ) (place : Spot) → MayThrow S target class → GoesTo x n class handler place
        → Contains (t.raise l n handler (t.leave l n by target sent out)) g → (landings : List (Option ℕ)) → AreLandings x n (MayThrow S target) landings
        → OfOne (Raised u k o (u.leave k o by target sent out)) landings (concluded place g)
    landed by sent g class handler place throws goes raised landings are =
        let landing_is = is_landing x n (MayThrow S target) landings are class handler place throws goes in
        let path : t.raise l n handler (t.leave l n by target sent out) ≡ u.raise k o handler (u.leave k o by target sent out) =
        ap (t.raise l n handler) (left_same by sent) ∙ sym (stands.same.raise handler (u.leave k o by target sent out)) in
        (handler, landing_is.0, (g, into _ _ g path raised, at place g (landing handler) landing_is.1))

    call_returned : (c : NodeCall) (sent g : SiteFact) (offset : ℕ) → AreListed f target (t.enter (by_call c) sent) spots.Returned out → Enters x S t m l n target f (by_call c) sent
        → Contains n.successors offset → Contains (t.next l n (t.leave l n (by_call c) target sent out)) g → IsOneOf m e conclusions [] (edge_of m e (spots.Node offset) g)
    call_returned c sent g offset listed into_method there next =
        let path : t.next l n (t.leave l n (by_call c) target sent out) ≡ u.next k o (u.leave k o (by_call c) target sent out) =
        ap (t.next l n) (left_same (by_call c) sent) ∙ sym (stands.same.next (u.leave k o (by_call c) target sent out)) in
        entered_left (by_call c) sent spots.Returned listed into_method (spots.Node offset) g
        (λ landings are. (offset, into n.successors o.successors offset stands.successors there, (g, into _ _ g path next, at (spots.Node offset) g (spots.Node offset) refl)))

    runs_on : IsAt (before o) (u.leave k o by_trigger target f out) (concluded (before n) (t.leave l n by_trigger target f out))
    runs_on = record { at = same_spot; is = plain_is (t.leave l n by_trigger target f out) ∙ left_same by_trigger f }

    resumed : (exit : Spot) → AreListed f target (t.enter by_trigger f) exit out → StartsAt x.program n target → IsExit exit
        → IsOneOf m e conclusions [] (edge_of m e (before n) (t.leave l n by_trigger target f out))
    resumed (spots.Node offset) listed starts none = absurd none
    resumed spots.Returned listed starts is =
        entered_left by_trigger f spots.Returned listed (triggered starts) (before n) (t.leave l n by_trigger target f out) (λ landings are. runs_on)
    resumed spots.Thrown listed starts is =
        entered_left by_trigger f spots.Thrown listed (triggered starts) (before n) (t.leave l n by_trigger target f out) (λ landings are. inl runs_on)

    thrown : (by : Entering) (landings : List (Option ℕ)) (left : SiteFact) (c : Conclusion) → OfOne (Raised u k o left) landings c → AfterThrow u k o by landings left c
    thrown (by_call call) landings left c which = which
    thrown by_trigger landings left c which = inr which

    unwound : (by : Entering) (sent g : SiteFact) (class : List ℕ) (handler : Option ℕ) (place : Spot) → AreListed f target (t.enter by sent) spots.Thrown out
        → Enters x S t m l n target f by sent → MayThrow S target class → GoesTo x n class handler place → Contains (t.raise l n handler (t.leave l n by target sent out)) g
        → IsOneOf m e conclusions [] (edge_of m e place g)
    unwound by sent g class handler place listed into_method throws goes raised =
        entered_left by sent spots.Thrown listed into_method place g
        (λ landings are. thrown by landings (u.leave k o by target sent out) (concluded place g) (landed by sent g class handler place throws goes raised landings are))

  from_two : (premises : List Edge) (to : Edge) → Instance x gives S (transfer_of w) premises to → FromTwo premises to
  from_two premises to start = tt
  from_two premises to (goes_on m l n e f g offset node no_call there next) = tt
  from_two premises to (returns m l n e f g value node is next) = tt
  from_two premises to (raises m l n e f g class handler spot node throws lands raised) = tt
  from_two premises to (answers m l n e f sent g c target stub parameters result offset node is goes is_stub returned there sends answered) = tt
  from_two premises to (described_raises m l n e f sent g c target stub parameters class handler spot node is goes is_stub throws lands sends raised) = tt
  from_two premises to (enters m l n e f sent target by node into_method) = tt
  from_two premises to (call_returns m l n e f sent out g target c offset node into_method there next) =
      λ looked same told. call_returned m l n e f node looked same target out c sent g offset (told target refl) into_method there next
  from_two premises to (resumes m l n e f out target exit node starts is) =
      λ looked same told. resumed m l n e f node looked same target out exit (told target refl) starts is
  from_two premises to (unwinds m l n e f sent out g target by class handler spot node into_method throws lands raised) =
      λ looked same told. unwound m l n e f node looked same target out by sent g class handler spot (told target refl) into_method throws lands raised

  module _ (m : Option MethodNo) (f : SiteFact) (target : MethodNo) (entry : SiteFact) (spot : Spot) (out : SiteFact) (looked : IsLookedAt x gives S w s Knows m o ways) where
    abbrev there : StandsFor x S w s Knows m o ways looked.method looked.node
    there = looked.each looked.method looked.node looked.stands looked.at

    abbrev premises : SiteFact → List Edge
    premises e = edge_of m e (before o) f ∷ edge_of (Some target) entry spot out ∷ []

    from_node : (e : SiteFact) (to : Edge) → Instance x gives S (transfer_of w) (edge_of m e (before looked.node) f ∷ edge_of (Some target) entry spot out ∷ []) to
        → Instance x gives S (transfer_of w) (premises e) to
    from_node e to =
        subst (λ (offset : ℕ). Instance x gives S (transfer_of w) (edge_of m e (spots.Node offset) f ∷ edge_of (Some target) entry spot out ∷ []) to) looked.at

    pub two_follow : AreListed f target entry spot out → AreFollowing x gives S (transfer_of w) m premises conclusions []
    two_follow listed = record {
      within_follow = λ c e among.
          from_node e (within m e c)
          (leaves_follows x gives S w s Knows m o ways looked.method looked.node looked.stands like looked.at there e f target out entry spot c
          ((listed.conclusions_are there.setting there.lowered there.like there.known c).0 among));
      begun_follow = λ b e among. absurd (contains_none b among);
      all = λ e to instance.
          from_two (premises e) to instance looked refl
          (λ own same. subst (λ (z : MethodNo). AreListed f z entry spot out) (same_Some target own same) listed);
    }
