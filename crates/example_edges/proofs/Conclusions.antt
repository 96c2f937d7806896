-- What follows from edges of a small program, as lists: the conclusions from one edge, and those from a caller's edge and one to an exit of a method.
use Rattle.std.proofs.Common.{ℕ, nat_eq, Bool, false, ◌&&◌, cond, List, [], ◌∷◌, ◌++◌, map, Option, Some, None}
use Rattle.std.specs.List.{slice_get, flat_map, list_any}
use Rattle.std.specs.Option.{option_map}
use Rattle.jvm_model.specs.declared.number.ClassNo.{ClassNo}
use Rattle.jvm_model.specs.declared.number.MethodNo.{MethodNo}
use Rattle.jvm_model.specs.Programs.{Body, Method, Program, in_file, described}
use Rattle.op_model.specs.declared.lowered.LoweredMethod.{LoweredMethod}
use Rattle.op_model.specs.declared.node.Node.{Node}
use Rattle.op_model.specs.declared.node.NodeHandler.{NodeHandler}
use Rattle.op_model.specs.declared.node.NodeRef.{NodeRef}
use Rattle.op_model.specs.declared.node.Spot.{Spot}
use Rattle.op_model.specs.declared.node.Spot.TheVariants as spots
use Rattle.op_model.specs.declared.op.Call.{Call as NodeCall}
use Rattle.points_to_rules.specs.Facts.{Fact, may_hold, may_run, may_call, may_write, thrown_by}
use Rattle.stage_facts.specs.Facts.{SiteFact}
use Rattle.stage_transfer.specs.Calls.{another, by_call}
use Rattle.stage_transfer.specs.Stages.{Transfer, transfer_of}
use Rattle.stage_edges.specs.Rules.{Edge, edge, node_at}
use Rattle.listed_answers.specs.ListedAnswers.{same_holder}
use Rattle.example_edges.proofs.Equal.{same_fact, same_method}
use Rattle.example_edges.proofs.Nodes.{Example, call_in, value_in}

-- ---- where exceptions go

abbrev pub first_handler : List NodeHandler → Option ℕ
first_handler [] = None
first_handler (h ∷ later) = Some h.target

abbrev pub thrown_to : List NodeHandler → Spot
thrown_to [] = spots.Thrown
thrown_to (h ∷ later) = spots.Node h.target

-- ---- targets

abbrev pub target_in : NodeRef → Fact → List MethodNo
target_in r (may_hold h s) = []
target_in r (may_run m) = []
target_in r (may_call q m) = cond (same_method r.method q.method && nat_eq r.offset q.offset) (m ∷ []) []
target_in r (may_write m f) = []

abbrev pub targets_of : List Fact → NodeRef → List MethodNo
targets_of facts r = flat_map (target_in r) facts

abbrev pub is_thrown_by : MethodNo → Fact → Bool
is_thrown_by m (may_hold h s) = same_holder (thrown_by m) h
is_thrown_by m (may_run n) = false
is_thrown_by m (may_call c n) = false
is_thrown_by m (may_write n f) = false

abbrev pub body_at : Program → MethodNo → Option Body
body_at p m = option_map (λ (k : Method). k.body) (slice_get p.methods m.0)

-- ---- by cases

abbrev pub unless_call : Option NodeCall → List Edge → List Edge
unless_call None edges = edges
unless_call (Some c) edges = []

abbrev pub if_return : Option (Option ℕ) → List Edge → List Edge
if_return None edges = []
if_return (Some value) edges = edges

abbrev pub if_call : Option NodeCall → (NodeCall → List Edge) → List Edge
if_call None follow = []
if_call (Some c) follow = follow c

abbrev pub by_body : Option Body → (in_files by_stubs : List Edge) → List Edge
by_body None in_files by_stubs = []
by_body (Some (in_file file number member)) in_files by_stubs = in_files
by_body (Some (described s)) in_files by_stubs = by_stubs

-- The edges with these facts, at each successor.
abbrev pub after : Option MethodNo → (entry : SiteFact) → (successors : List ℕ) → List SiteFact → List Edge
after m e successors facts = flat_map (λ (offset : ℕ). map (edge m e (spots.Node offset)) facts) successors

module _ (a : Example) where
  abbrev pub t : Transfer
  t = transfer_of a.setting

  module _ (m : Option MethodNo) (l : LoweredMethod) (n : Node) (d : Edge) where
    abbrev pub targets : List MethodNo
    targets = targets_of a.facts (node_at m n)

    -- ---- from one edge

    abbrev pub goes : List Edge
    goes = unless_call (call_in n.op) (after m d.entry n.successors (t.next l n d.fact))

    abbrev pub leaves : List Edge
    leaves = if_return (value_in n.op) (map (edge m d.entry spots.Returned) (t.next l n d.fact))

    abbrev pub raised : List Edge
    raised = flat_map (λ (c : ClassNo). map (edge m d.entry (thrown_to n.handlers)) (t.raise l n (first_handler n.handlers) d.fact)) n.throws

    -- A target begins, or a stub answers.
    abbrev pub sent_to : NodeCall → MethodNo → SiteFact → List Edge
    sent_to c target sent =
        by_body (body_at a.program target) (edge (Some target) (t.enter (by_call c) sent) (spots.Node 0) (t.enter (by_call c) sent) ∷ [])
        (after m d.entry n.successors (t.answer l n c [] another sent))

    abbrev pub called : NodeCall → List Edge
    called c = flat_map (λ (target : MethodNo). flat_map (sent_to c target) (t.event l n c d.fact)) targets

    abbrev pub from_one : List Edge
    from_one = goes ++ (leaves ++ (raised ++ if_call (call_in n.op) called))

    -- ---- from two

    module _ (q : Edge) where
      -- The target was left at an exit with the second edge's fact.
      abbrev pub left_at : NodeCall → MethodNo → SiteFact → Spot → List Edge
      left_at c target sent (spots.Node offset) = []
      left_at c target sent spots.Returned = after m d.entry n.successors (t.next l n (t.leave l n (by_call c) target sent q.fact))
      left_at c target sent spots.Thrown =
          cond (list_any (is_thrown_by target) a.facts)
          (map (edge m d.entry (thrown_to n.handlers)) (t.raise l n (first_handler n.handlers) (t.leave l n (by_call c) target sent q.fact))) []

      abbrev pub joined : NodeCall → MethodNo → SiteFact → List Edge
      joined c target sent = by_body (body_at a.program target) (cond (same_fact (t.enter (by_call c) sent) q.entry) (left_at c target sent q.spot) []) []

      abbrev pub returned_to : NodeCall → MethodNo → List Edge
      returned_to c target = cond (same_method (Some target) q.method) (flat_map (joined c target) (t.event l n c d.fact)) []

      abbrev pub from_two : List Edge
      from_two = if_call (call_in n.op) (λ (c : NodeCall). flat_map (returned_to c) targets)
