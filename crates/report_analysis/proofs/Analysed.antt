-- From a solution and its ground to the answer of the analysis.
use Rattle.std.proofs.Common.{◌≡◌, ℕ, List, map, Contains, Ok, Some, sym, ap, ◌∙◌, subst}
use Rattle.std.specs.List.{slice_get}
use Rattle.jvm_model.specs.declared.number.MethodNo.{MethodNo}
use Rattle.jvm_model.specs.declared.reason.Refusal.{Refusal}
use Rattle.jvm_model.specs.Programs.{Program}
use Rattle.program_index.proofs.ListPlaces.{map_at, at_map}
use Rattle.op_model.specs.declared.lowered.LoweredMethod.{LoweredMethod}
use Rattle.op_model.specs.Supplies.{GivenAs}
use Rattle.least_sets.specs.Rules.{IsLeast}
use Rattle.least_sets.proofs.Places.{place_of, contains_at}
use Rattle.points_to_rules.specs.Facts.{Fact, may_hold, may_run}
use Rattle.points_to_rules.specs.Refusals.{IsRefusedCall, IsRefusedIn, of_method, of_call}
use Rattle.points_to_rules.specs.Solutions.{AreRunning, IsSolution}
use Rattle.points_to_rules.specs.declared.running_method.RunningMethod.{RunningMethod}
use Rattle.ground.specs.Findings.{Findings}
use Rattle.ground.specs.Lists.{nodes_of}
use Rattle.call_graph.specs.Grounds.{GroundInstance, IsGround}
use Rattle.call_graph.proofs.Combined.{found_is_in, plain_was_found, least_together}
use Rattle.report_analysis.specs.Analyses.{AreListed, IsAnalysis}

module _ (p : Program) (gives : GivenAs) (entry : MethodNo) (limit : ℕ) (found : List Fact) (solution : IsSolution p gives entry limit found) (methods : List RunningMethod)
    (running : AreRunning gives (Contains found) methods) (whole : (number : ℕ) (l : LoweredMethod) → gives number (Ok l) → l.method ≡ record { 0 = number })
    (g : Findings) (is_ground : IsGround p found g) (same : g.methods ≡ map nodes_of methods) where
  least : IsLeast (GroundInstance p (map nodes_of methods) found) g.facts
  least = subst (λ (ls : List LoweredMethod). IsLeast (GroundInstance p ls found) g.facts) same is_ground.least

  into : (fact : Fact) → Contains found fact → Contains g.facts fact
  into = found_is_in p gives entry found g.facts methods solution.least.least running whole least

  runs_found : (m : MethodNo) → Contains g.facts (may_run m) → Contains found (may_run m)
  runs_found m there = plain_was_found p gives entry found g.facts methods solution.least.least running whole least (may_run m) there tt

  -- ---- no refusal

  refused_call : (m : MethodNo) (offset : ℕ) (reason : _) → IsRefusedCall p gives (Contains g.facts) m offset reason → IsRefusedCall p gives (Contains found) m offset reason
  refused_call m offset reason c = record {
    runs = runs_found m c.runs;
    method = c.method;
    node = c.node;
    stands = c.stands;
    at = c.at;
    call = c.call;
    is_call = c.is_call;
    z = c.z;
    receiver = c.receiver;
    holder = c.holder;
    slot = c.slot;
    site = c.site;
    held = plain_was_found p gives entry found g.facts methods solution.least.least running whole least (may_hold c.holder c.site) c.held tt;
    lacks = c.lacks;
  }

  refused_found : (m : MethodNo) (r : Refusal) → IsRefusedIn p gives (Contains g.facts) m r → IsRefusedIn p gives (Contains found) m r
  refused_found m r (of_method runs given) = of_method (runs_found m runs) given
  refused_found m r (of_call offset start name reason call starts is) = of_call offset start name reason (refused_call m offset reason call) starts is

  -- ---- the methods

  -- a listed method is that of one that may run
  running_at : (k : ℕ) (l : LoweredMethod) → slice_get (map nodes_of methods) k ≡ Some l → (r : RunningMethod) × (slice_get methods k ≡ Some r) × (r.method ≡ l)
  running_at k l at = map_at nodes_of methods k l at

  all_listed : AreListed gives (Contains g.facts) (map nodes_of methods)
  all_listed = record {
    only = λ l there.
        let (k, at) = place_of (map nodes_of methods) l there in
        let (r, stands, is) = running_at k l at in
        let (runs, given) = running.only r (contains_at methods k r stands) in
        subst (λ (x : LoweredMethod). Contains g.facts (may_run x.method) × gives x.method.0 (Ok x)) is (into (may_run r.method.method) runs, given);
    all = λ number l runs given.
        let (r, there, is) = running.all number l (runs_found number runs) given in
        let (k, at) = place_of methods r there in
        let among = contains_at (map nodes_of methods) k r.method (at_map nodes_of methods k r at) in
        subst (λ (x : LoweredMethod). Contains (map nodes_of methods) x) is among;
    apart = λ i j a b at_i at_j numbers.
        let (r, there_i, is_a) = running_at i a at_i in
        let (s, there_j, is_b) = running_at j b at_j in
        running.apart i j r s there_i there_j (ap (λ (x : LoweredMethod). x.method) is_a ∙ numbers ∙ sym (ap (λ (x : LoweredMethod). x.method) is_b));
  }

  pub analysed : IsAnalysis p gives entry limit g
  analysed = record {
    found = found;
    solution = solution;
    program = is_ground.program;
    least = least_together p gives entry found g.facts methods solution.least.least running whole least;
    unrefused = λ m r refused. solution.unrefused m r (refused_found m r refused);
    listed = subst (λ (ls : List LoweredMethod). AreListed gives (Contains g.facts) ls) (sym same) all_listed;
    placed = is_ground.placed;
  }
