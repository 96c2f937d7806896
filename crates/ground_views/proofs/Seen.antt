-- The nodes of the ground and of the start, as one looks at them.
use Rattle.std.proofs.Common.{◌≡◌, ◌≤◌, ◌<◌, ◌^◌, ◌+◌, ℕ, zero, suc, List, [], ◌∷◌, length, Option, None, Some, refl, sym, ap, ◌∙◌, subst, inl, inr, arith}
use Rattle.std.specs.List.{All, Contains, slice_get}
use Rattle.std.proofs.lemmas.Bool.{cases_lt}
use Rattle.std.proofs.lemmas.Option.{none-some, same_Some, slice_get_within}
use Rattle.list_laws.proofs.Members.{all_from_contains, contains_none}
use Rattle.list_laws.proofs.Places.{contains_at}
use Rattle.jvm_model.specs.declared.number.ClassNo.{ClassNo}
use Rattle.jvm_model.specs.declared.number.FieldNo.{FieldNo}
use Rattle.jvm_model.specs.declared.number.MethodNo.{MethodNo}
use Rattle.jvm_model.specs.declared.site.Site.{Site}
use Rattle.jvm_model.specs.Programs.{Program}
use Rattle.op_model.specs.declared.lowered.LoweredMethod.{LoweredMethod}
use Rattle.op_model.specs.declared.node.Node.{Node}
use Rattle.op_model.specs.declared.node.NodeHandler.{NodeHandler}
use Rattle.op_model.specs.declared.node.NodeRef.{NodeRef}
use Rattle.op_model.specs.declared.op.Call.{Call as NodeCall}
use Rattle.op_model.specs.declared.op.Move.{Move}
use Rattle.op_model.specs.declared.op.Op.{Op}
use Rattle.op_model.specs.declared.op.Op.TheVariants.{Call, Assign, Load, Store, LoadElement, StoreElement, LoadStatic, StoreStatic, New, NewArray, Constant, Return, Throw, Cast, Probe}
use Rattle.machine_bytecode.specs.Objects.{Subject}
use Rattle.machine_nodes.specs.Nodes.{AreStartNodes, IsStartCall, IsStartReturn}
use Rattle.slot_names.specs.NodePlaces.{AreInOrder}
use Rattle.points_to_rules.specs.WholeMethods.{NamesNumbers}
use Rattle.ground.specs.declared.node_place.NodePlace.{NodePlace}
use Rattle.ground.specs.Findings.{Findings, HasNode, IsNodeAt, IsPlaceOfNode, gives_listed}
use Rattle.stage_transfer.specs.Settings.{AreAnswersOf, Setting}
use Rattle.stage_slots.specs.Known.{IsKnownIn, IsOf, KnownNode}
use Rattle.stage_edges.specs.Rules.{IsNode}
use Rattle.node_ways.specs.declared.ways.NodeWays.{NodeWays}
use Rattle.node_ways.specs.Ways.{AreWaysOf}
use Rattle.edge_steps.specs.Steps.{IsLookedAt}
use Rattle.ground_views.specs.declared.question.Question.{Question}
use Rattle.ground_views.specs.AtStart.{IsKnownAtStart}
use Rattle.ground_views.specs.Questions.{HasTooMany, IsAskedOf, arguments, slots}
use Rattle.ground_views.specs.Views.{AreStartWays, HasFewArguments, HasFewSlots, IsStartOf}
use Rattle.ground_views.proofs.Looked.{IsStartNode, call_of, is_call, is_return, looked_at_start, looked_in_ground, same_call, stands_at_place, start_node, start_offset}

call_return : (c : NodeCall) (value : Option ℕ) → Call c ≡ Return value → ⊥
call_return c value is = cc

call_static : (c : NodeCall) (f : FieldNo) (target : ℕ) → Call c ≡ LoadStatic f target → ⊥
call_static c f target is = cc

return_static : (value : Option ℕ) (f : FieldNo) (target : ℕ) → Return value ≡ LoadStatic f target → ⊥
return_static value f target is = cc

not_call_Assign : (c : NodeCall) (moves : List Move) → Assign moves ≡ Call c → ⊥
not_call_Assign c moves is = cc

not_call_Load : (c : NodeCall) (object : ℕ) (field : FieldNo) (target : ℕ) → Load object field target ≡ Call c → ⊥
not_call_Load c object field target is = cc

not_call_Store : (c : NodeCall) (object : ℕ) (field : FieldNo) (value : ℕ) → Store object field value ≡ Call c → ⊥
not_call_Store c object field value is = cc

not_call_LoadElement : (c : NodeCall) (array : ℕ) (target : ℕ) → LoadElement array target ≡ Call c → ⊥
not_call_LoadElement c array target is = cc

not_call_StoreElement : (c : NodeCall) (array : ℕ) (value : ℕ) → StoreElement array value ≡ Call c → ⊥
not_call_StoreElement c array value is = cc

not_call_LoadStatic : (c : NodeCall) (field : FieldNo) (target : ℕ) → LoadStatic field target ≡ Call c → ⊥
not_call_LoadStatic c field target is = cc

not_call_StoreStatic : (c : NodeCall) (field : FieldNo) (value : ℕ) → StoreStatic field value ≡ Call c → ⊥
not_call_StoreStatic c field value is = cc

not_call_New : (c : NodeCall) (site : Site) (target : ℕ) → New site target ≡ Call c → ⊥
not_call_New c site target is = cc

not_call_NewArray : (c : NodeCall) (sites : List Site) (target : ℕ) → NewArray sites target ≡ Call c → ⊥
not_call_NewArray c sites target is = cc

not_call_Constant : (c : NodeCall) (site : Site) (target : ℕ) → Constant site target ≡ Call c → ⊥
not_call_Constant c site target is = cc

not_call_Return : (c : NodeCall) (value : Option ℕ) → Return value ≡ Call c → ⊥
not_call_Return c value is = cc

not_call_Throw : (c : NodeCall) (value : ℕ) → Throw value ≡ Call c → ⊥
not_call_Throw c value is = cc

not_call_Cast : (c : NodeCall) (class : List ℕ) (slot : ℕ) → Cast class slot ≡ Call c → ⊥
not_call_Cast c class slot is = cc

not_call_Probe : (c : NodeCall) (slot : ℕ) → Probe slot ≡ Call c → ⊥
not_call_Probe c slot is = cc

-- ---- nodes of the ground

-- what the ground has at the offset stands at a place
pub place_of_ref : (x : Subject) (g : Findings) (node : NodeRef) (m : MethodNo) → node.method ≡ Some m → (l : LoweredMethod) (n : Node) → IsNode x (gives_listed g.methods) node.method l n
    → n.offset ≡ node.offset → (at : NodePlace) × IsPlaceOfNode g node at
place_of_ref x g node m is_m l n stands offset =
    let place = stands_at_place x g m l n (subst (λ (k : Option MethodNo). IsNode x (gives_listed g.methods) k l n) is_m stands) in
    (place.at, subst (λ (r : NodeRef). IsPlaceOfNode g r place.at) meant place.is)
  where
    meant : record { method = Some m; offset = n.offset } ≡ node
    meant = λ i. record { method = sym is_m i; offset = offset i }

pub has_node : (g : Findings) (node : NodeRef) (at : NodePlace) → IsPlaceOfNode g node at → HasNode g at
has_node g node at is =
    record {
      lowered = is.stands.lowered;
      stands = is.stands.method_stands;
      within = slice_get_within is.stands.lowered.nodes at.node is.node is.stands.node_stands;
    }

module _ (q : Question) (site : slice_get q.ground.now.sites q.site.0 ≡ Some q.setting.site.now) (m : MethodNo) (node : NodeRef) (is_m : node.method ≡ Some m) (at : NodePlace)
    (is : IsPlaceOfNode q.ground.now node at) (only : (other : NodePlace) → IsPlaceOfNode q.ground.now node other → other ≡ at) (k : KnownNode)
    (of : IsOf q.ground.now at q.site k) (n : Node) (stands : IsNodeAt q.ground.now at n) where
  abbrev l : LoweredMethod
  l = stands.lowered

  same_method : is.stands.lowered ≡ l
  same_method = same_Some is.stands.lowered l (sym is.stands.method_stands ∙ stands.method_stands)

  same_node : is.node ≡ n
  same_node = same_Some is.node n (sym is.stands.node_stands ∙ ap (λ (j : LoweredMethod). slice_get j.nodes at.node) same_method ∙ stands.node_stands)

  pub same_offset : n.offset ≡ node.offset
  same_offset = ap (λ (o : Node). o.offset) (sym same_node) ∙ is.is

  number : l.method ≡ m
  number = same_Some l.method m (ap (λ (j : LoweredMethod). Some j.method) (sym same_method) ∙ sym is.of_method ∙ is_m)

  meant : record { method = Some m; offset = n.offset } ≡ node
  meant = λ i. record { method = sym is_m i; offset = same_offset i }

  module _ (x : Subject) (w : Setting) (asked : IsAskedOf q x w) (ways : NodeWays) (are : AreWaysOf x (Contains q.ground.now.facts) (Some l.method) l n ways) where
    known : IsKnownIn k w l n
    known =
        let own : k.method ≡ l = same_Some k.method l (sym of.method ∙ stands.method_stands) in
        record {
          method = sym own;
          node = ap (λ (j : LoweredMethod). slice_get j.nodes k.at.node) own ∙ ap (λ (a : NodePlace). slice_get l.nodes a.node) of.place ∙ stands.node_stands;
          site = (λ i. slice_get (of.ground i).sites (of.number i).0) ∙ site ∙ ap Some (sym asked.like.site);
          answers = subst (λ (h : Findings). AreAnswersOf (Contains h.facts) w.answers) (sym of.ground) asked.setting.answers;
        }

    pub seen_in_ground : IsLookedAt x (gives_listed q.ground.now.methods) (Contains q.ground.now.facts) w q.setting (IsKnownIn k) node.method n ways
    seen_in_ground =
        subst (λ (o : Option MethodNo). IsLookedAt x (gives_listed q.ground.now.methods) (Contains q.ground.now.facts) w q.setting (IsKnownIn k) o n ways) (sym is_m)
        (looked_in_ground x q.ground.now w q.setting (IsKnownIn k) m ways at l n stands.method_stands stands.node_stands number
        (λ other there. only other (subst (λ (r : NodeRef). IsPlaceOfNode q.ground.now r other) meant there)) asked.like known
        (subst (λ (o : MethodNo). AreWaysOf x (Contains q.ground.now.facts) (Some o) l n ways) number are))

-- ---- what is too large

pub too_large : (g : Findings) (at : NodePlace) (n : Node) → IsNodeAt g at n → (HasFewArguments n → ⊥) → HasTooMany g
too_large g at n stands never = by n.op refl never
  where
    many : (c : NodeCall) → n.op ≡ Call c → HasTooMany g
    many c is = elim (cases_lt (2 ^ 32) (length c.arguments)) [
      | inl long ↦ arguments stands.lowered n c (contains_at g.methods at.method stands.lowered stands.method_stands) (contains_at stands.lowered.nodes at.node n stands.node_stands) is long
      | inr few ↦ absurd (never (λ d also. subst (λ (e : NodeCall). length e.arguments ≤ 2 ^ 32) (same_call c d (sym is ∙ also)) few))
    ]

    of_op : (op : Op) → n.op ≡ op → HasTooMany g
    of_op (Call c) is = many c is
    of_op (Assign moves) is = absurd (never (λ c also. absurd (not_call_Assign c moves (sym is ∙ also))))
    of_op (Load object field target) is = absurd (never (λ c also. absurd (not_call_Load c object field target (sym is ∙ also))))
    of_op (Store object field value) is = absurd (never (λ c also. absurd (not_call_Store c object field value (sym is ∙ also))))
    of_op (LoadElement array target) is = absurd (never (λ c also. absurd (not_call_LoadElement c array target (sym is ∙ also))))
    of_op (StoreElement array value) is = absurd (never (λ c also. absurd (not_call_StoreElement c array value (sym is ∙ also))))
    of_op (LoadStatic field target) is = absurd (never (λ c also. absurd (not_call_LoadStatic c field target (sym is ∙ also))))
    of_op (StoreStatic field value) is = absurd (never (λ c also. absurd (not_call_StoreStatic c field value (sym is ∙ also))))
    of_op (New site target) is = absurd (never (λ c also. absurd (not_call_New c site target (sym is ∙ also))))
    of_op (NewArray sites target) is = absurd (never (λ c also. absurd (not_call_NewArray c sites target (sym is ∙ also))))
    of_op (Constant site target) is = absurd (never (λ c also. absurd (not_call_Constant c site target (sym is ∙ also))))
    of_op (Return value) is = absurd (never (λ c also. absurd (not_call_Return c value (sym is ∙ also))))
    of_op (Throw value) is = absurd (never (λ c also. absurd (not_call_Throw c value (sym is ∙ also))))
    of_op (Cast class slot) is = absurd (never (λ c also. absurd (not_call_Cast c class slot (sym is ∙ also))))
    of_op (Probe slot) is = absurd (never (λ c also. absurd (not_call_Probe c slot (sym is ∙ also))))

    by : (op : Op) → n.op ≡ op → (HasFewArguments n → ⊥) → HasTooMany g
    by op is h = of_op op is

pub too_many_slots : (g : Findings) (l : LoweredMethod) → Contains g.methods l → (HasFewSlots l → ⊥) → HasTooMany g
too_many_slots g l there never = elim (cases_lt 4294967295 (l.slots + l.stack)) [
  | inl long ↦ slots l there long
  | inr few ↦ absurd (never (record { few = few }))
]

-- the node at a place is this one
pub node_here : (g : Findings) (at : NodePlace) (a : Node) → IsNodeAt g at a → (l : LoweredMethod) (n : Node) → slice_get g.methods at.method ≡ Some l → slice_get l.nodes at.node ≡ Some n
    → a ≡ n
node_here g at a is l n method node =
    let same : is.lowered ≡ l = same_Some is.lowered l (sym is.method_stands ∙ method) in
    same_Some a n (sym is.node_stands ∙ ap (λ (j : LoweredMethod). slice_get j.nodes at.node) same ∙ node)

-- ---- nodes of the start

-- A subject with the program and the entry; what its property is does not matter.
abbrev pub some_subject : Findings → MethodNo → Subject
some_subject g entry = record {
  program = g.program;
  property = record { class_name = []; states = []; initial = 0; error = 0; events = [] };
  entry = entry.0;
}

module _ (g : Findings) (entry : MethodNo) (x : Subject) (k : LoweredMethod) (start : IsStartOf g entry k) (program : x.program ≡ g.program) (at_entry : x.entry ≡ entry.0) (n : Node)
    (there : Contains k.nodes n) where
  pub is_start_node : IsStartNode x n
  is_start_node = start_node x k n (start.nodes x program at_entry) there

  few_of : IsStartNode x n → HasFewArguments n
  few_of (is_call a) = λ c is. subst (λ (d : NodeCall). length d.arguments ≤ 2 ^ 32) (same_call (call_of x a.entry) c (sym a.op ∙ is)) (omega arith)
  few_of (is_return a) = λ c is. absurd (call_return c None (sym is ∙ a.op))

  pub few_at_start : HasFewArguments n
  few_at_start = few_of is_start_node

  call_names : IsStartCall x n → NamesNumbers x.program n
  call_names a = record {
    throws = λ c listed_. let named = (a.throws.only c listed_).1 in slice_get_within x.program.classes c.0 named.class named.stands;
    trigger = λ c is.
        let same : c ≡ a.class = same_Some c a.class (sym is ∙ a.trigger) in
        subst (λ (d : ClassNo). d.0 < length x.program.classes) (sym same) (slice_get_within x.program.classes a.class.0 a.is_class.class a.is_class.stands);
    catches = λ h c listed_ is. absurd (contains_none h (subst (λ (hs : List NodeHandler). Contains hs h) a.handlers listed_));
    statics = λ f target is. absurd (call_static (call_of x a.entry) f target (sym a.op ∙ is));
    resolved = λ c is.
        subst (λ (d : NodeCall). d.resolved.0 < length x.program.methods) (same_call (call_of x a.entry) c (sym a.op ∙ is)) (slice_get_within x.program.methods x.entry a.entry a.stands);
    chosen = λ c target is chosen_.
        let same = same_call (call_of x a.entry) c (sym a.op ∙ is) in
        let own : record { 0 = x.entry } ≡ target = same_Some (record { 0 = x.entry }) target (ap (λ (d : NodeCall). d.chosen) same ∙ chosen_) in
        subst (λ (m : MethodNo). m.0 < length x.program.methods) own (slice_get_within x.program.methods x.entry a.entry a.stands);
  }

  return_names : IsStartReturn n → NamesNumbers x.program n
  return_names a = record {
    throws = λ c listed_. absurd (contains_none c (subst (λ (cs : List ClassNo). Contains cs c) a.throws listed_));
    trigger = λ c is. absurd (none-some c (sym a.trigger ∙ is));
    catches = λ h c listed_ is. absurd (contains_none h (subst (λ (hs : List NodeHandler). Contains hs h) a.handlers listed_));
    statics = λ f target is. absurd (return_static None f target (sym a.op ∙ is));
    resolved = λ c is. absurd (call_return c None (sym is ∙ a.op));
    chosen = λ c target is chosen_. absurd (call_return c None (sym is ∙ a.op));
  }

  names_of : IsStartNode x n → NamesNumbers x.program n
  names_of (is_call a) = call_names a
  names_of (is_return a) = return_names a

  pub names_at_start : NamesNumbers g.program n
  names_at_start = subst (λ (p : Program). NamesNumbers p n) program (names_of is_start_node)

-- the nodes of the start name what the program has
pub start_names : (g : Findings) (entry : MethodNo) (k : LoweredMethod) → IsStartOf g entry k → All (NamesNumbers g.program) k.nodes
start_names g entry k start =
    all_from_contains (NamesNumbers g.program) k.nodes (λ n there. names_at_start g entry (some_subject g entry) k start refl refl n there)

-- no call of the start has many arguments
pub start_few : (g : Findings) (entry : MethodNo) (k : LoweredMethod) → IsStartOf g entry k → (n : Node) → Contains k.nodes n → HasFewArguments n
start_few g entry k start n there = few_at_start g entry (some_subject g entry) k start refl refl n there

-- they stand in order
pub start_in_order : (g : Findings) (entry : MethodNo) (k : LoweredMethod) → IsStartOf g entry k → AreInOrder k
start_in_order g entry k start = record { ascend = λ i j n o less at also. by i j n o less (placed i n at) (placed j o also) }
  where
    are : AreStartNodes (some_subject g entry) k.nodes
    are = start.nodes (some_subject g entry) refl refl

    placed : (i : ℕ) (n : Node) → slice_get k.nodes i ≡ Some n → n.offset ≡ i
    placed i n at = at_place i (subst (λ (ns : List Node). slice_get ns i ≡ Some n) are.is at)
      where
        at_place : (j : ℕ) → slice_get (are.call ∷ are.return ∷ []) j ≡ Some n → n.offset ≡ j
        at_place zero first = ap (λ (o : Node). o.offset) (sym (same_Some are.call n first)) ∙ are.is_call.offset
        at_place (suc zero) second = ap (λ (o : Node). o.offset) (sym (same_Some are.return n second)) ∙ are.is_return.offset
        at_place (suc (suc j)) none = absurd (none-some n none)

    by : (i j : ℕ) (n o : Node) → i < j → n.offset ≡ i → o.offset ≡ j → n.offset < o.offset
    by i j n o less first second = omega (arith, less, first, second)

module _ (q : Question) (x : Subject) (w : Setting) (asked : IsAskedOf q x w) (k : LoweredMethod) (start : IsStartOf q.ground.now q.entry k) (n : Node) (there : Contains k.nodes n)
    (ways : NodeWays) (are : AreStartWays q.ground.now n ways) where
  pub seen_at_start : IsLookedAt x (gives_listed q.ground.now.methods) (Contains q.ground.now.facts) w q.setting (IsKnownAtStart q.ground.now) None n ways
  seen_at_start =
      looked_at_start x q.ground.now w q.setting ways k n (start.nodes x asked.program asked.entry) start.slots start.stack start.params there asked.like asked.setting.answers
      (λ l o a b. are.call x l o asked.program a b) (λ l o a b. are.returning x l o asked.program a b)

-- at the start there is no node at another offset
pub none_at_start : (q : Question) (x : Subject) (w : Setting) → IsAskedOf q x w → (k : LoweredMethod) → IsStartOf q.ground.now q.entry k → (node : NodeRef) → node.method ≡ None
    → ((n : Node) → Contains k.nodes n → n.offset ≡ node.offset → ⊥) → (l : LoweredMethod) (n : Node) → IsNode x (gives_listed q.ground.now.methods) node.method l n → n.offset ≡ node.offset → ⊥
none_at_start q x w asked k start node at_start never l n stands offset =
    let found = start_offset x q.ground.now k (start.nodes x asked.program asked.entry) l n
    (subst (λ (m : Option MethodNo). IsNode x (gives_listed q.ground.now.methods) m l n) at_start stands) in
    never found.0 found.1 (found.2 ∙ offset)
