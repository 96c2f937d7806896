-- By a rule with two premises, an edge to the node that is looked at and one to a spot of a method, what Parts says follows.
use Rattle.std.proofs.Common.{◌≡◌, ◌⊎◌, inl, inr, ℕ, List, [], ◌∷◌, Option, Some, refl, sym, ap, ◌∙◌, subst}
use Rattle.std.specs.List.{Contains}
use Rattle.jvm_model.specs.declared.number.MethodNo.{MethodNo}
use Rattle.op_model.specs.declared.lowered.LoweredMethod.{LoweredMethod}
use Rattle.op_model.specs.declared.node.Node.{Node}
use Rattle.op_model.specs.declared.node.Spot.{Spot}
use Rattle.op_model.specs.declared.node.Spot.TheVariants as spots
use Rattle.op_model.specs.declared.op.Call.{Call as NodeCall}
use Rattle.op_model.specs.declared.op.Op.TheVariants.{Call}
use Rattle.op_model.specs.Supplies.{GivenAs}
use Rattle.machine_bytecode.specs.Objects.{Subject}
use Rattle.points_to_rules.specs.Calls.{IsOfFile}
use Rattle.points_to_rules.specs.Facts.{Fact, may_call}
use Rattle.points_to_rules.specs.Rules.{StartsAt}
use Rattle.ground.specs.Added.{OfOne}
use Rattle.stage_facts.specs.Facts.{SiteFact}
use Rattle.stage_transfer.specs.Calls.{Entering, by_call, by_trigger}
use Rattle.stage_transfer.specs.Settings.{Setting}
use Rattle.stage_transfer.specs.Stages.{Transfer, transfer_of}
use Rattle.stage_views.specs.declared.setting.StageSetting.{StageSetting}
use Rattle.stage_views.specs.Views.{IsSettingBy}
use Rattle.stage_edges.specs.Rules.{Edge, Enters, Instance, IsExit, IsNode, MayThrow, before, edge as edge_of, node_at, call_returns, called, resumes, triggered, unwinds}
use Rattle.node_ways.specs.declared.ways.EnteredMethod.{EnteredMethod}
use Rattle.node_ways.specs.declared.ways.NodeWays.{NodeWays}
use Rattle.node_ways.specs.Ways.{AreLandings, IsCalled}
use Rattle.edge_steps.specs.declared.conclusions.Conclusion.{Conclusion}
use Rattle.edge_steps.specs.Parts.{After, AfterReturn, AfterThrow, IsAt, LeavesCall, LeavesTrigger, OneAtEach, Raised, landing}
use Rattle.edge_steps.specs.Parts as parts
use Rattle.edge_steps.specs.Steps.{StandsFor, within}
use Rattle.edge_steps.proofs.Transfers.{enters_same, into, lands_at}

-- what follows from an exit of a method that the node calls, or starts
abbrev pub Leaves : Transfer → LoweredMethod → Node → NodeWays → SiteFact → (target : MethodNo) → (entry : SiteFact) → (spot : Spot) → (out : SiteFact) → Conclusion → Type 0
Leaves t l n ways f target entry spot out c = LeavesCall t l n ways f target entry spot out c ⊎ LeavesTrigger t l n ways f target entry spot out c

-- ---- how a method is entered

pub record IsByCall (x : Subject) (S : Fact → Type 0) (t : Transfer) (m : Option MethodNo) (l : LoweredMethod) (n : Node) (target : MethodNo) (f : SiteFact) (c : NodeCall) (sent : SiteFact)
    : Type 0 where
  pub is_call : n.op ≡ Call c
  pub goes : S (may_call (node_at m n) target)
  pub of_file : IsOfFile x.program target
  pub sends : Contains (t.event l n c f) sent

abbrev pub IsBy : (x : Subject) (S : Fact → Type 0) (t : Transfer) (m : Option MethodNo) (l : LoweredMethod) (n : Node) (target : MethodNo) (f : SiteFact) → Entering → (sent : SiteFact) → Type 0
IsBy x S t m l n target f (by_call c) sent = IsByCall x S t m l n target f c sent
IsBy x S t m l n target f by_trigger sent = (sent ≡ f) × StartsAt x.program n target

is_by : (x : Subject) (S : Fact → Type 0) (t : Transfer) (m : Option MethodNo) (l : LoweredMethod) (n : Node) (target : MethodNo) (f : SiteFact) (by : Entering) (sent : SiteFact)
    → Enters x S t m l n target f by sent → IsBy x S t m l n target f by sent
is_by x S t m l n target f by sent (called c g is to of_file sends) = record { is_call = is; goes = to; of_file = of_file; sends = sends }
is_by x S t m l n target f by sent (triggered starts) = (refl, starts)

pub by_a_call : (x : Subject) (S : Fact → Type 0) (t : Transfer) (m : Option MethodNo) (l : LoweredMethod) (n : Node) (target : MethodNo) (f : SiteFact) (c : NodeCall) (sent : SiteFact)
    → Enters x S t m l n target f (by_call c) sent → IsByCall x S t m l n target f c sent
by_a_call x S t m l n target f c sent = is_by x S t m l n target f (by_call c) sent

pub by_a_trigger : (x : Subject) (S : Fact → Type 0) (t : Transfer) (m : Option MethodNo) (l : LoweredMethod) (n : Node) (target : MethodNo) (f sent : SiteFact)
    → Enters x S t m l n target f by_trigger sent → (sent ≡ f) × StartsAt x.program n target
by_a_trigger x S t m l n target f sent = is_by x S t m l n target f by_trigger sent

-- ---- what Parts says follows

module _ (x : Subject) (gives : GivenAs) (S : Fact → Type 0) (w : Setting) (s : StageSetting) (Knows : Setting → LoweredMethod → Node → Type 0) (m : Option MethodNo)
    (o : Node) (ways : NodeWays) (l : LoweredMethod) (n : Node) (node : IsNode x gives m l n) (like : IsSettingBy s w) (at_same : n.offset ≡ o.offset)
    (stands : StandsFor x S w s Knows m o ways l n) (e f : SiteFact) (target : MethodNo) (out : SiteFact) where
  abbrev t : Transfer
  t = transfer_of w

  abbrev u : Transfer
  u = transfer_of stands.setting

  abbrev k : LoweredMethod
  k = stands.lowered

  abbrev FromExit : (entry : SiteFact) → Spot → Edge → Type 0
  FromExit entry spot to = Instance x gives S t (edge_of m e (before n) f ∷ edge_of (Some target) entry spot out ∷ []) to

  moved : (entry : SiteFact) (exit spot : Spot) (g : SiteFact) (c : Conclusion) → IsAt spot g c → FromExit entry exit (edge_of m e spot g) → FromExit entry exit (within m e c)
  moved entry exit spot g c at from = subst (FromExit entry exit) (λ i. edge_of m e (sym at.at i) (sym at.is i)) from

  left_same : (by : Entering) (sent : SiteFact) → u.leave k o by target sent out ≡ t.leave l n by target sent out
  left_same by sent = stands.same.leave by target sent out

  -- the object lands where the ways say
  lands : (by : Entering) (sent : SiteFact) (landings : List (Option ℕ)) → AreLandings x n (MayThrow S target) landings → Enters x S t m l n target f by sent → (c : Conclusion)
      → OfOne (Raised u k o (u.leave k o by target sent out)) landings c → FromExit (t.enter by sent) spots.Thrown (within m e c)
  lands by sent landings are into_method c (handler, there, (g, listed, at)) =
      let landed = lands_at x n (MayThrow S target) landings are handler there in
      let path : u.raise k o handler (u.leave k o by target sent out) ≡ t.raise l n handler (t.leave l n by target sent out) =
      ap (u.raise k o handler) (left_same by sent) ∙ stands.same.raise handler (t.leave l n by target sent out) in
      moved (t.enter by sent) spots.Thrown (landing handler) g c at
      (unwinds m l n e f sent out g target by landed.class handler (landing handler) node into_method landed.thrown landed.goes (into _ _ g path listed))

  -- the node that started an initialiser runs on
  runs_on : (sent : SiteFact) → Enters x S t m l n target f by_trigger sent → (exit : Spot) → IsExit exit → (c : Conclusion) → IsAt (before o) (u.leave k o by_trigger target sent out) c
      → FromExit (t.enter by_trigger sent) exit (within m e c)
  runs_on sent into_method exit is c at =
      let start = by_a_trigger x S t m l n target f sent into_method in
      moved (t.enter by_trigger sent) exit (before n) (t.leave l n by_trigger target sent out) c
      (record { at = at.at ∙ (λ i. spots.Node (sym at_same i)); is = at.is ∙ left_same by_trigger sent })
      (subst (λ (g : SiteFact). FromExit (t.enter by_trigger g) exit (edge_of m e (before n) (t.leave l n by_trigger target g out))) (sym start.0)
      (resumes m l n e f out target exit node start.1 is))

  after_return : (by : Entering) (sent : SiteFact) → Enters x S t m l n target f by sent → (c : Conclusion) → AfterReturn u k o by (u.leave k o by target sent out) c
      → FromExit (t.enter by sent) spots.Returned (within m e c)
  after_return (by_call call) sent into_method c (offset, near, (g, listed, at)) =
      let path : u.next k o (u.leave k o (by_call call) target sent out) ≡ t.next l n (t.leave l n (by_call call) target sent out) =
      ap (u.next k o) (left_same (by_call call) sent) ∙ stands.same.next (t.leave l n (by_call call) target sent out) in
      moved (t.enter (by_call call) sent) spots.Returned (spots.Node offset) g c at
      (call_returns m l n e f sent out g target call offset node into_method (into o.successors n.successors offset (sym stands.successors) near) (into _ _ g path listed))
  after_return by_trigger sent into_method c at = runs_on sent into_method spots.Returned tt c at

  after_throw : (by : Entering) (sent : SiteFact) (landings : List (Option ℕ)) → AreLandings x n (MayThrow S target) landings → Enters x S t m l n target f by sent → (c : Conclusion)
      → AfterThrow u k o by landings (u.leave k o by target sent out) c → FromExit (t.enter by sent) spots.Thrown (within m e c)
  after_throw (by_call call) sent landings are into_method c which = lands (by_call call) sent landings are into_method c which
  after_throw by_trigger sent landings are into_method c (inl at) = runs_on sent into_method spots.Thrown tt c at
  after_throw by_trigger sent landings are into_method c (inr which) = lands by_trigger sent landings are into_method c which

  after : (by : Entering) (sent : SiteFact) (landings : List (Option ℕ)) → AreLandings x n (MayThrow S target) landings → Enters x S t m l n target f by sent → (spot : Spot) (c : Conclusion)
      → After u k o by landings (u.leave k o by target sent out) spot c → FromExit (t.enter by sent) spot (within m e c)
  after by sent landings are into_method (spots.Node offset) c none = absurd none
  after by sent landings are into_method spots.Returned c which = after_return by sent into_method c which
  after by sent landings are into_method spots.Thrown c which = after_throw by sent landings are into_method c which

  -- the method is the one that is left, and it was entered with the fact
  from_method : (by : Entering) (sent entry : SiteFact) (v : EnteredMethod) → v.method ≡ target → AreLandings x n (MayThrow S v.method) v.landings.items → Enters x S t m l n target f by sent
      → u.enter by sent ≡ entry → (spot : Spot) (c : Conclusion) → After u k o by v.landings.items (u.leave k o by target sent out) spot c → FromExit entry spot (within m e c)
  from_method by sent entry v same are into_method was spot c which =
      subst (λ (g : SiteFact). FromExit g spot (within m e c)) (enters_same s w stands.setting like stands.like by sent ∙ was)
      (after by sent v.landings.items (subst (λ (m' : MethodNo). AreLandings x n (MayThrow S m') v.landings.items) same are) into_method spot c which)

  pub leaves_follows : (entry : SiteFact) (spot : Spot) (c : Conclusion) → Leaves u k o ways f target entry spot out c → FromExit entry spot (within m e c)
  leaves_follows entry spot c (inl (parts.ends call is_call (sent, sends, (v, there, (same, (was, which)))))) =
      let only = stands.are_ways.called.only v there in
      let goal = subst (λ (m' : MethodNo). IsCalled x S m n m') same only.0 in
      let into_method : Enters x S t m l n target f (by_call call) sent =
      called call sent (stands.op ∙ is_call) goal.goes goal.of_file (into (u.event k o call f) (t.event l n call f) sent (stands.same.event call f is_call) sends) in
      from_method (by_call call) sent entry v same only.1 into_method was spot c which
  leaves_follows entry spot c (inr (v, there, (same, (was, which)))) =
      let only = stands.are_ways.started.only v there in
      let starts = subst (λ (m' : MethodNo). StartsAt x.program n m') same only.0 in
      from_method by_trigger f entry v same only.1 (triggered starts) was spot c which
