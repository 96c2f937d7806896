-- What is looked at stands for each node of the method at its offset.
use Rattle.std.proofs.Common.{◌≡◌, ◌⊎◌, ℕ, List, [], ◌∷◌, Option, None, Some, Result, Ok, refl, sym, ap, ◌∙◌, subst, inl, inr, arith}
use Rattle.std.specs.List.{Contains, slice_get}
use Rattle.std.proofs.lemmas.Option.{none-some, same_Some}
use Rattle.list_laws.proofs.Members.{contains_cases, contains_first, contains_later, contains_only}
use Rattle.list_laws.proofs.Places.{contains_at, place_of}
use Rattle.jvm_model.specs.declared.number.MethodNo.{MethodNo}
use Rattle.jvm_model.specs.Programs.{Method}
use Rattle.jvm_model.specs.declared.reason.Refusal.{Refusal}
use Rattle.op_model.specs.declared.lowered.LoweredMethod.{LoweredMethod}
use Rattle.op_model.specs.declared.node.Node.{Node}
use Rattle.op_model.specs.declared.op.Call.{Call as NodeCall}
use Rattle.op_model.specs.declared.op.CallKind.TheVariants.{Static}
use Rattle.op_model.specs.declared.op.Op.TheVariants.{Call, Return}
use Rattle.machine_bytecode.specs.Objects.{Subject}
use Rattle.machine_nodes.specs.Nodes.{AreStartNodes, IsStartCall, IsStartReturn}
use Rattle.ground.specs.declared.node_place.NodePlace.{NodePlace}
use Rattle.ground.specs.Findings.{Findings, IsPlaceOfNode, gives_listed}
use Rattle.stage_transfer.specs.Settings.{AreAnswersOf, Setting}
use Rattle.stage_transfer.specs.Stages.{transfer_of}
use Rattle.stage_views.specs.declared.setting.StageSetting.{StageSetting}
use Rattle.stage_views.specs.Views.{IsSettingBy}
use Rattle.stage_edges.specs.Rules.{IsMethod, IsNode, of_file, of_start}
use Rattle.node_ways.specs.declared.ways.NodeWays.{NodeWays}
use Rattle.node_ways.specs.Ways.{AreWaysOf}
use Rattle.edge_steps.specs.Steps.{DoTheSame, IsLookedAt, StandsFor}
use Rattle.ground_views.specs.AtStart.{IsKnownAtStart}
use Rattle.ground_views.proofs.Slotless.{do_the_same, next_of_call, next_of_return, unknown_slots}

-- what is given as nodes is one method
same_Ok : (l k : LoweredMethod) (a b : Result LoweredMethod Refusal) → a ≡ b → a ≡ Ok l → b ≡ Ok k → l ≡ k
same_Ok l k a b same one other = cc

-- ---- nodes of the ground

-- The node of a method stands at a place.
pub record StandsAtPlace (g : Findings) (m : MethodNo) (l : LoweredMethod) (n : Node) : Type 0 where
  pub at : NodePlace
  pub is : IsPlaceOfNode g (record { method = Some m; offset = n.offset }) at
  pub method : slice_get g.methods at.method ≡ Some l
  pub node : slice_get l.nodes at.node ≡ Some n

-- The method is listed, with that number.
record IsListed (g : Findings) (m : MethodNo) (l : LoweredMethod) : Type 0 where
  there : Contains g.methods l
  number : m ≡ l.method

listed : (x : Subject) (g : Findings) (m : MethodNo) (l : LoweredMethod) → IsMethod x (gives_listed g.methods) l (Some m) → IsListed g m l
listed x g m l is = by (Some m) is refl
  where
    by : (k : Option MethodNo) → IsMethod x (gives_listed g.methods) l k → k ≡ Some m → IsListed g m l
    by k (of_file number given) same =
        let here : l ≡ given.0 = same_Ok l given.0 (Ok l) (Ok given.0) given.3 refl refl in
        let is_m : number ≡ m = same_Some number m same in
        record {
          there = subst (Contains g.methods) (sym here) given.1;
          number = sym is_m ∙ (λ i. record { 0 = (sym given.2 ∙ ap (λ (k : LoweredMethod). k.method.0) (sym here)) i });
        }
    by k (of_start nodes slots stack params) same = absurd (none-some m same)

pub stands_at_place : (x : Subject) (g : Findings) (m : MethodNo) (l : LoweredMethod) (n : Node) → IsNode x (gives_listed g.methods) (Some m) l n → StandsAtPlace g m l n
stands_at_place x g m l n node =
    let is = listed x g m l node.method in
    let method = place_of g.methods l is.there in
    let place = place_of l.nodes n node.stands in
    record {
      at = record { method = method.0; node = place.0 };
      is = record {
        node = n;
        stands = record { lowered = l; method_stands = method.1; node_stands = place.1 };
        of_method = ap Some is.number;
        is = refl;
      };
      method = method.1;
      node = place.1;
    }

module _ (x : Subject) (g : Findings) (w : Setting) (s : StageSetting) (Knows : Setting → LoweredMethod → Node → Type 0) (m : MethodNo) (ways : NodeWays) (at : NodePlace)
    (l : LoweredMethod) (n : Node) (method : slice_get g.methods at.method ≡ Some l) (node : slice_get l.nodes at.node ≡ Some n) (number : l.method ≡ m)
    (only : (other : NodePlace) → IsPlaceOfNode g (record { method = Some m; offset = n.offset }) other → other ≡ at) (like : IsSettingBy s w) (known : Knows w l n)
    (are : AreWaysOf x (Contains g.facts) (Some m) l n ways) where
  itself : StandsFor x (Contains g.facts) w s Knows (Some m) n ways l n
  itself = record {
    op = refl;
    successors = refl;
    are_ways = are;
    lowered = l;
    setting = w;
    like = like;
    known = known;
    same = record {
      next = λ f. refl;
      raise = λ handler f. refl;
      event = λ c f is. refl;
      answer = λ c kept r f is. refl;
      exception = λ kept handler f. refl;
      leave = λ by target caller exit. refl;
    };
  }

  each_of_ground : (k : LoweredMethod) (o : Node) → IsNode x (gives_listed g.methods) (Some m) k o → o.offset ≡ n.offset → StandsFor x (Contains g.facts) w s Knows (Some m) n ways k o
  each_of_ground k o there offset =
      let place = stands_at_place x g m k o there in
      let here : place.at ≡ at = only place.at (subst (λ (z : ℕ). IsPlaceOfNode g (record { method = Some m; offset = z }) place.at) offset place.is) in
      let same_method : l ≡ k = same_Some l k (sym method ∙ ap (λ (p : NodePlace). slice_get g.methods p.method) (sym here) ∙ place.method) in
      let same_node : n ≡ o =
      same_Some n o (sym node ∙ ap (λ (p : NodePlace). slice_get l.nodes p.node) (sym here) ∙ ap (λ (j : LoweredMethod). slice_get j.nodes place.at.node) same_method ∙ place.node) in
      subst (λ (o : Node). StandsFor x (Contains g.facts) w s Knows (Some m) n ways k o) same_node
      (subst (λ (k : LoweredMethod). StandsFor x (Contains g.facts) w s Knows (Some m) n ways k n) same_method itself)

  pub looked_in_ground : IsLookedAt x (gives_listed g.methods) (Contains g.facts) w s Knows (Some m) n ways
  looked_in_ground = record {
    each = each_of_ground;
    method = l;
    node = n;
    stands = record { method = of_file m (l, contains_at g.methods at.method l method, ap (λ (k : MethodNo). k.0) number, refl); stands = contains_at l.nodes at.node n node };
    at = refl;
  }

-- ---- nodes of the start

-- A node of the start is its call or its return.
pub data IsStartNode (x : Subject) (n : Node) : Type 0 where
  is_call : IsStartCall x n → IsStartNode x n
  is_return : IsStartReturn n → IsStartNode x n

pub start_node : (x : Subject) (l : LoweredMethod) (n : Node) → AreStartNodes x l.nodes → Contains l.nodes n → IsStartNode x n
start_node x l n are there = by (contains_cases are.call n (are.return ∷ []) (subst (λ (ns : List Node). Contains ns n) are.is there))
  where
    by : (are.call ≡ n) ⊎ Contains (are.return ∷ []) n → IsStartNode x n
    by (inl first) = is_call (subst (IsStartCall x) first are.is_call)
    by (inr second) = is_return (subst IsStartReturn (contains_only are.return n second) are.is_return)

-- the call has one operation
abbrev pub call_of : Subject → Method → NodeCall
call_of x entry = record {
  kind = Static;
  resolved = record { 0 = x.entry };
  chosen = Some (record { 0 = x.entry });
  name = entry.signature.name;
  descriptor = entry.signature.descriptor;
  arguments = [];
  result = None;
}

one_call : (x : Subject) (n o : Node) (a : IsStartCall x n) → IsStartCall x o → o.op ≡ Call (call_of x a.entry)
one_call x n o a b =
    let entry : b.entry ≡ a.entry = same_Some b.entry a.entry (sym b.stands ∙ a.stands) in
    b.op ∙ ap (λ (e : Method). Call (call_of x e)) entry

pub same_call : (c d : NodeCall) → Call c ≡ Call d → c ≡ d
same_call c d is = cc

call_return : (c : NodeCall) (value : Option ℕ) → Call c ≡ Return value → ⊥
call_return c value is = cc

module _ (x : Subject) (g : Findings) (w : Setting) (s : StageSetting) (ways : NodeWays) (k : LoweredMethod) (n : Node) (nodes : AreStartNodes x k.nodes) (slots : k.slots ≡ 0)
    (stack : k.stack ≡ 0) (params : k.params ≡ 0) (there : Contains k.nodes n) (like : IsSettingBy s w) (answers : AreAnswersOf (Contains g.facts) w.answers)
    (of_call : (l : LoweredMethod) (o : Node) → IsStartCall x n → IsStartCall x o → AreWaysOf x (Contains g.facts) None l o ways)
    (of_return : (l : LoweredMethod) (o : Node) → IsStartReturn n → IsStartReturn o → AreWaysOf x (Contains g.facts) None l o ways) where
  abbrev Stands : LoweredMethod → Node → Type 0
  Stands l o = StandsFor x (Contains g.facts) w s (IsKnownAtStart g) None n ways l o

  known_at_start : IsKnownAtStart g (unknown_slots w) k n
  known_at_start = record { slots = slots; stack = stack; variables = λ z. refl; holds = λ h r. refl; alone = λ h r. refl; writes = answers.writes }

  like_unknown : IsSettingBy s (unknown_slots w)
  like_unknown = record { property = like.property; site = like.site; stage = like.stage; depth = like.depth; few = like.few }

  stands_by : (l : LoweredMethod) (o : Node) → n.op ≡ o.op → n.successors ≡ o.successors → AreWaysOf x (Contains g.facts) None l o ways
      → DoTheSame (transfer_of (unknown_slots w)) k n (transfer_of w) l o → Stands l o
  stands_by l o op successors are same =
      record { op = sym op; successors = sym successors; are_ways = are; lowered = k; setting = unknown_slots w; like = like_unknown; known = known_at_start; same = same }

  both_calls : (l : LoweredMethod) (o : Node) → l.slots ≡ 0 → l.stack ≡ 0 → IsStartCall x n → IsStartCall x o → Stands l o
  both_calls l o l_slots l_stack a b =
      let c : NodeCall = call_of x a.entry in
      let is : n.op ≡ Call c = a.op in
      let also : o.op ≡ Call c = one_call x n o a b in
      stands_by l o (is ∙ sym also) (a.successors ∙ sym b.successors) (of_call l o a b)
      (do_the_same w k l n o slots stack l_slots l_stack (is ∙ sym also) (λ d e. ap (λ (f : NodeCall). f.kind) (same_call d c (sym e ∙ is)))
      (next_of_call w k l n o slots stack l_slots l_stack c is also))

  both_returns : (l : LoweredMethod) (o : Node) → l.slots ≡ 0 → l.stack ≡ 0 → IsStartReturn n → IsStartReturn o → Stands l o
  both_returns l o l_slots l_stack a b =
      stands_by l o (a.op ∙ sym b.op) (a.successors ∙ sym b.successors) (of_return l o a b)
      (do_the_same w k l n o slots stack l_slots l_stack (a.op ∙ sym b.op) (λ d e. absurd (call_return d None (sym e ∙ a.op)))
      (next_of_return w k l n o slots stack l_slots l_stack None a.op b.op))

  each_at_start : (l : LoweredMethod) (o : Node) → IsNode x (gives_listed g.methods) None l o → o.offset ≡ n.offset → Stands l o
  each_at_start l o node offset = by None node.method refl
    where
      of : (l_slots : l.slots ≡ 0) (l_stack : l.stack ≡ 0) → IsStartNode x n → IsStartNode x o → Stands l o
      of l_slots l_stack (is_call a) (is_call b) = both_calls l o l_slots l_stack a b
      of l_slots l_stack (is_call a) (is_return b) = absurd (let one = b.offset in let none = a.offset in omega (arith, one, none, offset))
      of l_slots l_stack (is_return a) (is_call b) = absurd (let one = a.offset in let none = b.offset in omega (arith, one, none, offset))
      of l_slots l_stack (is_return a) (is_return b) = both_returns l o l_slots l_stack a b

      by : (m : Option MethodNo) → IsMethod x (gives_listed g.methods) l m → m ≡ None → Stands l o
      by m (of_file number given) is = absurd (none-some number (sym is))
      by m (of_start are l_slots l_stack l_params) is = of l_slots l_stack (start_node x k n nodes there) (start_node x l o are node.stands)

  pub looked_at_start : IsLookedAt x (gives_listed g.methods) (Contains g.facts) w s (IsKnownAtStart g) None n ways
  looked_at_start = record { each = each_at_start; method = k; node = n; stands = record { method = of_start nodes slots stack params; stands = there }; at = refl }

-- each node of the start has the offset of one of this method
pub start_offset : (x : Subject) (g : Findings) (k : LoweredMethod) → AreStartNodes x k.nodes → (l : LoweredMethod) (o : Node) → IsNode x (gives_listed g.methods) None l o
    → (n : Node) × Contains k.nodes n × (n.offset ≡ o.offset)
start_offset x g k nodes l o node = by None node.method refl
  where
    first : Contains k.nodes nodes.call
    first = subst (λ (ns : List Node). Contains ns nodes.call) (sym nodes.is) (contains_first nodes.call (nodes.return ∷ []))

    second : Contains k.nodes nodes.return
    second = subst (λ (ns : List Node). Contains ns nodes.return) (sym nodes.is) (contains_later nodes.call nodes.return (nodes.return ∷ []) (contains_first nodes.return []))

    of : IsStartNode x o → (n : Node) × Contains k.nodes n × (n.offset ≡ o.offset)
    of (is_call a) = (nodes.call, first, nodes.is_call.offset ∙ sym a.offset)
    of (is_return a) = (nodes.return, second, nodes.is_return.offset ∙ sym a.offset)

    by : (m : Option MethodNo) → IsMethod x (gives_listed g.methods) l m → m ≡ None → (n : Node) × Contains k.nodes n × (n.offset ≡ o.offset)
    by m (of_file number given) is = absurd (none-some number (sym is))
    by m (of_start are l_slots l_stack l_params) is = of (start_node x l o are node.stands)
