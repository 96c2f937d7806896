-- Path edges are of methods that may run: so two suppliers that give the same nodes of these have the same path edges.
use Rattle.std.proofs.Common.{◌≡◌, ◌⊎◌, inl, inr, ℕ, List, [], ◌∷◌, ◌++◌, Option, Some, None, All, Contains, refl, sym, ap, ◌∙◌, subst, take}
use Rattle.std.specs.Prelude.{slice_get}
use Rattle.std.proofs.lemmas.List.Elements.{All-contains, All-weaker}
use Rattle.std.proofs.lemmas.Option.{none-some, same_Some}
use Rattle.jvm_model.specs.declared.number.ClassNo.{ClassNo}
use Rattle.jvm_model.specs.declared.number.MethodNo.{MethodNo}
use Rattle.jvm_model.specs.Programs.{Method}
use Rattle.least_sets.specs.Parts.{HasAtLeast}
use Rattle.least_sets.specs.Rules.{Follows, Hold, IsClosedSet, IsDerivable, IsDerivation}
use Rattle.least_sets.proofs.Places.{first_or_later, nothing_in}
use Rattle.least_sets.proofs.Derivations.{Hold-larger, IsDerivation-front, derivable_in_closed, derivation_in_closed}
use Rattle.op_model.specs.declared.lowered.LoweredMethod.{LoweredMethod}
use Rattle.op_model.specs.declared.node.Node.{Node}
use Rattle.op_model.specs.Supplies.{GivenAs}
use Rattle.machine_bytecode.specs.Objects.{Subject}
use Rattle.machine_nodes.specs.Nodes.{AreStartNodes, IsClassNumber, IsCodedInitialiser}
use Rattle.coverage.proofs.Throws.{class_is}
use Rattle.points_to_rules.specs.Facts.{Fact, may_call, may_run}
use Rattle.points_to_rules.specs.Rules.{Instance as PointsToInstance, IsNodeOf, StartsAt, at_node, before_entry, initialiser_runs, target_runs}
use Rattle.points_to_rules.specs.Writes.{AnyInstance}
use Rattle.stage_facts.specs.Facts.{SiteFact}
use Rattle.stage_transfer.specs.Calls.{Entering}
use Rattle.stage_transfer.specs.Settings.{Setting}
use Rattle.stage_transfer.specs.Stages.{Transfer, transfer_of}
use Rattle.report_spec.specs.Traces.{IsErrorDerivation}
use Rattle.stage_edges.specs.Edges.{IsAtLimit, IsSafeBelow, StageInstance}
use Rattle.stage_edges.specs.Rules.{Edge, Enters, Instance, IsMethod, IsNode, answers, call_returns, called, described_raises, enters, goes_on, node_at, of_file, of_start, raises, resumes, returns, start, triggered, unwinds}

-- ---- methods that may run

-- The start, or a method that may run.
abbrev pub MayRun : (Fact → Type 0) → Option MethodNo → Type 0
MayRun S None = Unit {0}
MayRun S (Some m) = S (may_run m)

abbrev pub Runs : (Fact → Type 0) → Edge → Type 0
Runs S e = MayRun S e.method

-- Each node that the one gives of a method that may run, the other gives.
abbrev pub GivesNodes : (Fact → Type 0) → GivenAs → GivenAs → Type 0
GivesNodes S from to = (m : MethodNo) (l : LoweredMethod) (n : Node) → S (may_run m) → IsNodeOf from m l n → IsNodeOf to m l n

-- ---- from one supplier to another

module _ (x : Subject) (S : Fact → Type 0) (one other : GivenAs) (over : GivesNodes S one other) (t : Transfer) where
  node_over : (m : Option MethodNo) (l : LoweredMethod) (n : Node) → MayRun S m → IsNode x one m l n → IsNode x other m l n
  node_over m l n runs node = by m runs node.method
    where
      by : (k : Option MethodNo) → MayRun S k → IsMethod x one l k → IsNode x other k l n
      by k may_run_k (of_file number given) =
          let there = over number l n may_run_k (record { given = given; stands = node.stands }) in
          record { method = of_file number there.given; stands = node.stands }
      by k may_run_k (of_start nodes slots stack params) = record { method = of_start nodes slots stack params; stands = node.stands }

  pub instance_over : (premises : List Edge) (edge : Edge) → Hold (Runs S) premises → Instance x one S t premises edge → Instance x other S t premises edge
  instance_over premises edge hold start = start
  instance_over premises edge hold (goes_on m l n e f g offset node no_call there to) = goes_on m l n e f g offset (node_over m l n hold.0 node) no_call there to
  instance_over premises edge hold (returns m l n e f g value node is to) = returns m l n e f g value (node_over m l n hold.0 node) is to
  instance_over premises edge hold (raises m l n e f g class handler spot node throws goes to) =
      raises m l n e f g class handler spot (node_over m l n hold.0 node) throws goes to
  instance_over premises edge hold (answers m l n e f sent g c target stub parameters result offset node is goes described listed_ there sends to) =
      answers m l n e f sent g c target stub parameters result offset (node_over m l n hold.0 node) is goes described listed_ there sends to
  instance_over premises edge hold (described_raises m l n e f sent g c target stub parameters class handler spot node is goes described throws lands sends to) =
      described_raises m l n e f sent g c target stub parameters class handler spot (node_over m l n hold.0 node) is goes described throws lands sends to
  instance_over premises edge hold (enters m l n e f sent target by node sends) = enters m l n e f sent target by (node_over m l n hold.0 node) sends
  instance_over premises edge hold (call_returns m l n e f sent out g target c offset node sends there to) =
      call_returns m l n e f sent out g target c offset (node_over m l n hold.0 node) sends there to
  instance_over premises edge hold (resumes m l n e f out target exit node starts is) = resumes m l n e f out target exit (node_over m l n hold.0 node) starts is
  instance_over premises edge hold (unwinds m l n e f sent out g target by class handler spot node sends throws lands to) =
      unwinds m l n e f sent out g target by class handler spot (node_over m l n hold.0 node) sends throws lands to

-- ---- edges are of methods that may run

-- one of two is the first or the second
two_nodes : (c r n : Node) → Contains (c ∷ r ∷ []) n → (c ≡ n) ⊎ (r ≡ n)
two_nodes c r n there = elim (first_or_later c (r ∷ []) n there) [
  | inl is ↦ inl is
  | inr later ↦ elim (first_or_later r [] n later) [ inl is ↦ inr is | inr none ↦ absurd (nothing_in n none) ]
]

module _ (x : Subject) (S : Fact → Type 0) (base : GivenAs) (closed : IsClosedSet (AnyInstance x.program base (record { 0 = x.entry })) S) (t : Transfer) where
  abbrev entry : MethodNo
  entry = record { 0 = x.entry }

  called_runs : (m : Option MethodNo) (n : Node) (target : MethodNo) → S (may_call (node_at m n) target) → S (may_run target)
  called_runs m n target goes = closed (may_call (node_at m n) target ∷ []) (may_run target) (inl (target_runs (node_at m n) target)) (goes, tt)

  -- the initialiser that the start may start
  start_runs : (l : LoweredMethod) (n : Node) (i : MethodNo) → AreStartNodes x l.nodes → Contains l.nodes n → StartsAt x.program n i → S (may_run i)
  start_runs l n i nodes stands starts = by (two_nodes nodes.call nodes.return n (subst (λ (ns : List Node). Contains ns n) nodes.is stands))
    where
      by : (nodes.call ≡ n) ⊎ (nodes.return ≡ n) → S (may_run i)
      by (inl is) =
          let call = nodes.is_call in
          let same : call.class ≡ starts.trigger = same_Some call.class starts.trigger (sym call.trigger ∙ ap (λ (k : Node). k.trigger) is ∙ starts.is_trigger) in
          let class : call.entry.class ≡ starts.class =
          class_is x.program call.class call.entry.class starts.class call.is_class (subst (λ (c : ClassNo). IsClassNumber x.program c starts.class) (sym same) starts.is_class) in
          closed [] (may_run i)
          (inl (initialiser_runs [] i (before_entry call.entry call.stands (subst (λ (name : List ℕ). IsCodedInitialiser x.program name i.0) (sym class) starts.initialiser) refl))) tt
      by (inr is) = absurd (none-some starts.trigger (sym nodes.is_return.trigger ∙ ap (λ (k : Node). k.trigger) is ∙ starts.is_trigger))

  started_runs : (m : Option MethodNo) (l : LoweredMethod) (n : Node) (i : MethodNo) → MayRun S m → IsNode x base m l n → StartsAt x.program n i → S (may_run i)
  started_runs m l n i runs node starts = by m runs node.method
    where
      by : (k : Option MethodNo) → MayRun S k → IsMethod x base l k → S (may_run i)
      by k may_run_k (of_file number given) =
          closed (may_run number ∷ []) (may_run i)
          (inl (initialiser_runs (may_run number ∷ []) i (at_node number l n (record { given = given; stands = node.stands }) starts refl))) (may_run_k, tt)
      by k may_run_k (of_start nodes slots stack params) = start_runs l n i nodes node.stands starts

  entered_runs : (m : Option MethodNo) (l : LoweredMethod) (n : Node) (target : MethodNo) (f : SiteFact) (by : Entering) (sent : SiteFact) → MayRun S m → IsNode x base m l n
      → Enters x S t m l n target f by sent → S (may_run target)
  entered_runs m l n target f by sent runs node (called c g is goes of_file_ there) = called_runs m n target goes
  entered_runs m l n target f by sent runs node (triggered starts) = started_runs m l n target runs node starts

  pub runs_closed : IsClosedSet (Instance x base S t) (Runs S)
  runs_closed premises edge start hold = tt
  runs_closed premises edge (goes_on m l n e f g offset node no_call there to) hold = hold.0
  runs_closed premises edge (returns m l n e f g value node is to) hold = hold.0
  runs_closed premises edge (raises m l n e f g class handler spot node throws goes to) hold = hold.0
  runs_closed premises edge (answers m l n e f sent g c target stub parameters result offset node is goes described listed_ there sends to) hold = hold.0
  runs_closed premises edge (described_raises m l n e f sent g c target stub parameters class handler spot node is goes described throws lands sends to) hold = hold.0
  runs_closed premises edge (enters m l n e f sent target by node sends) hold = entered_runs m l n target f by sent hold.0 node sends
  runs_closed premises edge (call_returns m l n e f sent out g target c offset node sends there to) hold = hold.0
  runs_closed premises edge (resumes m l n e f out target exit node starts is) hold = hold.0
  runs_closed premises edge (unwinds m l n e f sent out g target by class handler spot node sends throws lands to) hold = hold.0

-- ---- derivations by other rules, of facts with a property that the rules keep

module _ {F : Type 0} (I J : List F → F → Type 0) (P : F → Type 0) (keeps : IsClosedSet I P)
    (over : (premises : List F) (fact : F) → Hold P premises → I premises fact → J premises fact) where
  follows_kept : (earlier : List F) (fact : F) → ((x : F) → Contains earlier x → P x) → Follows I earlier fact → Follows J earlier fact
  follows_kept earlier fact all f = record {
    premises = f.premises;
    instance = over f.premises fact (Hold-larger (Contains earlier) P all f.premises f.hold) f.instance;
    hold = f.hold;
  }

  pub derivation_kept : (facts : List F) → IsDerivation I facts → IsDerivation J facts
  derivation_kept facts d k fact stands =
      follows_kept (take k facts) fact (derivation_in_closed I P (take k facts) (IsDerivation-front I facts k d) keeps) (d k fact stands)

  pub derivable_kept : (fact : F) → IsDerivable I fact → IsDerivable J fact
  derivable_kept fact d = (d.0, derivation_kept (d.0 ++ fact ∷ []) d.1)

-- ---- verdicts of a stage, by instances that go over

module _ (x : Subject) (S : Fact → Type 0) (w : Setting) (limit : ℕ) (from to : GivenAs) (runs : IsClosedSet (StageInstance x from S w) (Runs S))
    (over : (premises : List Edge) (edge : Edge) → Hold (Runs S) premises → StageInstance x from S w premises edge → StageInstance x to S w premises edge) where
  abbrev From : List Edge → Edge → Type 0
  From = StageInstance x from S w

  abbrev To : List Edge → Edge → Type 0
  To = StageInstance x to S w

  over_all : (edges : List Edge) → All (IsDerivable From) edges → All (IsDerivable To) edges
  over_all edges = All-weaker (IsDerivable From) (IsDerivable To) (derivable_kept From To (Runs S) runs over) edges

  pub safe_over : ((premises : List Edge) (edge : Edge) → Hold (Runs S) premises → To premises edge → From premises edge) → IsSafeBelow x from S w limit
      → IsSafeBelow x to S w limit
  safe_over back is =
      let all : All (Runs S) is.edges = All-weaker (IsDerivable From) (Runs S) (λ e d. derivable_in_closed From (Runs S) e d runs) is.edges is.are.least.derivable in
      record {
        setting = is.setting;
        edges = is.edges;
        are = record {
          least = record {
            closed = λ premises edge instance hold.
                is.are.least.closed premises edge
                (back premises edge (Hold-larger (Contains is.edges) (Runs S) (λ e there. All-contains (Runs S) is.edges e all there) premises hold) instance) hold;
            derivable = over_all is.edges is.are.least.derivable;
          };
          apart = is.are.apart;
        };
        few = is.few;
        no_error = is.no_error;
      }

  pub limit_over : IsAtLimit x from S w limit → IsAtLimit x to S w limit
  limit_over is = record {
    setting = is.setting;
    many = record { facts = is.many.facts; derivable = over_all is.many.facts is.many.derivable; apart = is.many.apart; count = is.many.count };
  }

-- ---- the same edges by two suppliers

module _ (x : Subject) (S : Fact → Type 0) (base listed : GivenAs) (closed : IsClosedSet (AnyInstance x.program base (record { 0 = x.entry })) S)
    (to_base : GivesNodes S listed base) (to_listed : GivesNodes S base listed) (w : Setting) where
  abbrev Base : List Edge → Edge → Type 0
  Base = StageInstance x base S w

  abbrev Listed : List Edge → Edge → Type 0
  Listed = StageInstance x listed S w

  base_runs : IsClosedSet Base (Runs S)
  base_runs = runs_closed x S base closed (transfer_of w)

  into_base : (premises : List Edge) (edge : Edge) → Hold (Runs S) premises → Listed premises edge → Base premises edge
  into_base = instance_over x S listed base to_base (transfer_of w)

  into_listed : (premises : List Edge) (edge : Edge) → Hold (Runs S) premises → Base premises edge → Listed premises edge
  into_listed = instance_over x S base listed to_listed (transfer_of w)

  listed_runs : IsClosedSet Listed (Runs S)
  listed_runs premises edge instance hold = base_runs premises edge (into_base premises edge hold instance) hold

  pub edge_in_base : (e : Edge) → IsDerivable Listed e → IsDerivable Base e
  edge_in_base = derivable_kept Listed Base (Runs S) listed_runs into_base

  pub edge_in_listed : (e : Edge) → IsDerivable Base e → IsDerivable Listed e
  edge_in_listed = derivable_kept Base Listed (Runs S) base_runs into_listed

  pub safe_in_base : (limit : ℕ) → IsSafeBelow x listed S w limit → IsSafeBelow x base S w limit
  safe_in_base limit = safe_over x S w limit listed base listed_runs into_base into_listed

  pub safe_in_listed : (limit : ℕ) → IsSafeBelow x base S w limit → IsSafeBelow x listed S w limit
  safe_in_listed limit = safe_over x S w limit base listed base_runs into_listed into_base

  pub limit_in_base : (limit : ℕ) → IsAtLimit x listed S w limit → IsAtLimit x base S w limit
  limit_in_base limit = limit_over x S w limit listed base listed_runs into_base

  pub limit_in_listed : (limit : ℕ) → IsAtLimit x base S w limit → IsAtLimit x listed S w limit
  limit_in_listed limit = limit_over x S w limit base listed base_runs into_listed

  pub error_in_base : (edges : List Edge) → IsErrorDerivation x listed S w edges → IsErrorDerivation x base S w edges
  error_in_base edges is = record {
    setting = is.setting;
    starts = is.starts;
    derivation = derivation_kept Listed Base (Runs S) listed_runs into_base edges is.derivation;
    error = is.error;
    ends = is.ends;
    is_error = is.is_error;
  }
