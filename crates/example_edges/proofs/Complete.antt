-- Whatever a rule concludes from edges to a node is among the lists of conclusions.
use Rattle.std.proofs.Common.{◌≡◌, ◌≢◌, inl, inr, ℕ, nat_eq, Bool, true, ◌&&◌, cond, List, [], ◌∷◌, ◌++◌, map, Option, Some, None, is_none, refl, sym, ◌∙◌, ap, subst}
use Rattle.std.specs.List.{flat_map, Contains, list_any}
use Rattle.std.specs.Option.{option_map}
use Rattle.std.proofs.lemmas.Bool.{and_from, eq-eqb, false≢true}
use Rattle.std.proofs.lemmas.List.Elements.{Contains-append_left, Contains-append_right}
use Rattle.jvm_model.specs.declared.number.ClassNo.{ClassNo}
use Rattle.jvm_model.specs.declared.number.MethodNo.{MethodNo}
use Rattle.jvm_model.specs.declared.site.Site.{Site}
use Rattle.jvm_model.specs.declared.stub.StubMethod.{StubMethod}
use Rattle.jvm_model.specs.Programs.{Body, Method, Program, in_file, described}
use Rattle.op_model.specs.declared.lowered.LoweredMethod.{LoweredMethod}
use Rattle.op_model.specs.declared.node.Node.{Node}
use Rattle.op_model.specs.declared.node.NodeHandler.{NodeHandler}
use Rattle.op_model.specs.declared.node.NodeRef.{NodeRef}
use Rattle.op_model.specs.declared.node.Spot.{Spot}
use Rattle.op_model.specs.declared.node.Spot.TheVariants as spots
use Rattle.op_model.specs.declared.op.Call.{Call as NodeCall}
use Rattle.op_model.specs.declared.op.Op.TheVariants.{Call, Return}
use Rattle.machine_bytecode.specs.Objects.{Subject}
use Rattle.machine_nodes.specs.NodeSteps.{IsFirstTaking, Takes, all}
use Rattle.list_laws.proofs.Members.{contains_first, contains_map, contains_none}
use Rattle.points_to_rules.specs.Calls.{IsDescribedBy, IsOfFile}
use Rattle.points_to_rules.specs.Facts.{Fact, may_call, may_hold, thrown_by}
use Rattle.stage_facts.specs.Facts.{SiteFact}
use Rattle.stage_transfer.specs.Calls.{another, by_call}
use Rattle.stage_transfer_laws.proofs.Members.{any_passes, in_flat_map}
use Rattle.stage_edges.specs.Rules.{Edge, edge, GoesTo, caught, node_at, uncaught}
use Rattle.listed_answers.proofs.SameHolders.{is_holder}
use Rattle.example_edges.proofs.Equal.{fact_itself, method_itself, same_fact, same_method}
use Rattle.example_edges.proofs.Nodes.{Example, call_in, call_is, take_all, value_in}
use Rattle.example_edges.proofs.Conclusions.{after, body_at, by_body, called, first_handler, from_one, from_two, goes, if_call, if_return, is_thrown_by, joined, leaves, left_at, raised, returned_to, sent_to, t, target_in, targets, targets_of, thrown_to, unless_call}

-- ---- lists

in_after : (m : Option MethodNo) (e g : SiteFact) (successors : List ℕ) (offset : ℕ) (facts : List SiteFact) → Contains successors offset → Contains facts g
    → Contains (after m e successors facts) (edge m e (spots.Node offset) g)
in_after m e g successors offset facts leads there =
    in_flat_map (λ (o : ℕ). map (edge m e (spots.Node o)) facts) successors offset (edge m e (spots.Node offset) g) leads
    (contains_map (edge m e (spots.Node offset)) facts g there)

in_cond : {X : Type 0} (b : Bool) (xs : List X) (x : X) → b ≡ true → Contains xs x → Contains (cond b xs []) x
in_cond {X} b xs x is there = subst (λ (k : Bool). Contains (cond k xs []) x) (sym is) there

in_unless : (o : Option NodeCall) (edges : List Edge) (x : Edge) → o ≡ None → Contains edges x → Contains (unless_call o edges) x
in_unless o edges x is there = subst (λ (k : Option NodeCall). Contains (unless_call k edges) x) (sym is) there

in_return : (o : Option (Option ℕ)) (value : Option ℕ) (edges : List Edge) (x : Edge) → o ≡ Some value → Contains edges x → Contains (if_return o edges) x
in_return o value edges x is there = subst (λ (k : Option (Option ℕ)). Contains (if_return k edges) x) (sym is) there

in_call : (o : Option NodeCall) (c : NodeCall) (follow : NodeCall → List Edge) (x : Edge) → o ≡ Some c → Contains (follow c) x → Contains (if_call o follow) x
in_call o c follow x is there = subst (λ (k : Option NodeCall). Contains (if_call k follow) x) (sym is) there

in_body : (o : Option Body) (body : Body) (in_files by_stubs : List Edge) (x : Edge) → o ≡ Some body → Contains (by_body (Some body) in_files by_stubs) x
    → Contains (by_body o in_files by_stubs) x
in_body o body in_files by_stubs x is there = subst (λ (k : Option Body). Contains (by_body k in_files by_stubs) x) (sym is) there

-- ---- where exceptions go

catches_all : {X : Type 0} (o : Option X) → is_none o ≡ true → o ≡ None
catches_all None e = refl
catches_all (Some x) e = absurd (false≢true e)

-- Where the first of some handlers takes all, what is thrown goes there; and without handlers it leaves the method.
taken_first : (p : Program) (class : List ℕ) (handlers : List NodeHandler) (h : NodeHandler) → take_all handlers ≡ true → IsFirstTaking p class handlers h
    → (first_handler handlers ≡ Some h.target) × (thrown_to handlers ≡ spots.Node h.target)
taken_first p class [] h takes first = absurd first
taken_first p class (g ∷ later) h takes (inl is) = (ap (λ (k : NodeHandler). Some k.target) (sym is.1), ap (λ (k : NodeHandler). spots.Node k.target) (sym is.1))
taken_first p class (g ∷ later) h takes (inr other) = absurd (other.0 (all (catches_all g.catch takes)))

none_takes : (p : Program) (class : List ℕ) (handlers : List NodeHandler) → take_all handlers ≡ true → ((h : NodeHandler) → Contains handlers h → Takes p h class → ⊥)
    → (first_handler handlers ≡ None) × (thrown_to handlers ≡ spots.Thrown)
none_takes p class [] takes refused = (refl, refl)
none_takes p class (g ∷ later) takes refused = absurd (refused g (contains_first g later) (all (catches_all g.catch takes)))

pub where_to : (x : Subject) (n : Node) (class : List ℕ) (handler : Option ℕ) (spot : Spot) → take_all n.handlers ≡ true → GoesTo x n class handler spot
    → (first_handler n.handlers ≡ handler) × (thrown_to n.handlers ≡ spot)
where_to x n class _ _ takes (caught h first) = taken_first x.program class n.handlers h takes first
where_to x n class _ _ takes (uncaught refused) = none_takes x.program class n.handlers takes refused

pub goes_there : (x : Subject) (n : Node) (class : List ℕ) (handlers : List NodeHandler) → n.handlers ≡ handlers → take_all handlers ≡ true
    → GoesTo x n class (first_handler handlers) (thrown_to handlers)
goes_there x n class [] is takes =
    uncaught (λ h there. absurd (contains_none h (subst (λ (hs : List NodeHandler). Contains hs h) is there)))
goes_there x n class (h ∷ later) is takes =
    caught h (subst (λ (hs : List NodeHandler). IsFirstTaking x.program class hs h) (sym is) (inl (all (catches_all h.catch takes), refl)))

-- ---- targets

called_at : (facts : List Fact) (r : NodeRef) (target : MethodNo) → Contains facts (may_call r target) → Contains (targets_of facts r) target
called_at facts r target there =
    in_flat_map (target_in r) facts (may_call r target) target there
    (in_cond (same_method r.method r.method && nat_eq r.offset r.offset) (target ∷ []) target
    (and_from (same_method r.method r.method) (nat_eq r.offset r.offset) (method_itself r.method) (eq-eqb r.offset r.offset refl)) (contains_first target []))

body_of_file : (p : Program) (target : MethodNo) (is : IsOfFile p target) → body_at p target ≡ Some (in_file is.file is.place is.member)
body_of_file p target is = ap (option_map (λ (k : Method). k.body)) is.stands ∙ ap Some is.of_file

body_of_stub : (p : Program) (target : MethodNo) (stub : StubMethod) (is : IsDescribedBy p target stub) → body_at p target ≡ Some (described stub)
body_of_stub p target stub is = ap (option_map (λ (k : Method). k.body)) is.stands ∙ ap Some is.of_stub

-- ---- from one edge

module _ (a : Example) (m : Option MethodNo) (l : LoweredMethod) (n : Node) (d : Edge) where
  abbrev ones : List Edge
  ones = from_one a m l n d

  pub has_goes : ((c : NodeCall) → n.op ≢ Call c) → (offset : ℕ) (g : SiteFact) → Contains n.successors offset → Contains ((t a).next l n d.fact) g
      → Contains ones (edge m d.entry (spots.Node offset) g)
  has_goes no_call offset g leads there =
      Contains-append_left (goes a m l n d) (leaves a m l n d ++ (raised a m l n d ++ if_call (call_in n.op) (called a m l n d))) (edge m d.entry (spots.Node offset) g)
      (in_unless (call_in n.op) (after m d.entry n.successors ((t a).next l n d.fact)) (edge m d.entry (spots.Node offset) g) (none (call_in n.op) refl)
      (in_after m d.entry g n.successors offset ((t a).next l n d.fact) leads there))
    where
      none : (o : Option NodeCall) → call_in n.op ≡ o → o ≡ None
      none None is = refl
      none (Some c) is = absurd (no_call c (call_is n.op c is))

  later : (x : Edge) → Contains (leaves a m l n d ++ (raised a m l n d ++ if_call (call_in n.op) (called a m l n d))) x → Contains ones x
  later x there = Contains-append_right (goes a m l n d) (leaves a m l n d ++ (raised a m l n d ++ if_call (call_in n.op) (called a m l n d))) x there

  pub has_leaves : (value : Option ℕ) → n.op ≡ Return value → (g : SiteFact) → Contains ((t a).next l n d.fact) g → Contains ones (edge m d.entry spots.Returned g)
  has_leaves value is g there =
      later (edge m d.entry spots.Returned g)
      (Contains-append_left (leaves a m l n d) (raised a m l n d ++ if_call (call_in n.op) (called a m l n d)) (edge m d.entry spots.Returned g)
      (in_return (value_in n.op) value (map (edge m d.entry spots.Returned) ((t a).next l n d.fact)) (edge m d.entry spots.Returned g) (ap value_in is)
      (contains_map (edge m d.entry spots.Returned) ((t a).next l n d.fact) g there)))

  last : (x : Edge) → Contains (raised a m l n d ++ if_call (call_in n.op) (called a m l n d)) x → Contains ones x
  last x there = later x (Contains-append_right (leaves a m l n d) (raised a m l n d ++ if_call (call_in n.op) (called a m l n d)) x there)

  pub has_raised : (c : ClassNo) → Contains n.throws c → (g : SiteFact) → Contains ((t a).raise l n (first_handler n.handlers) d.fact) g
      → Contains ones (edge m d.entry (thrown_to n.handlers) g)
  has_raised c listed g there =
      last (edge m d.entry (thrown_to n.handlers) g)
      (Contains-append_left (raised a m l n d) (if_call (call_in n.op) (called a m l n d)) (edge m d.entry (thrown_to n.handlers) g)
      (in_flat_map (λ (k : ClassNo). map (edge m d.entry (thrown_to n.handlers)) ((t a).raise l n (first_handler n.handlers) d.fact)) n.throws c
      (edge m d.entry (thrown_to n.handlers) g) listed
      (contains_map (edge m d.entry (thrown_to n.handlers)) ((t a).raise l n (first_handler n.handlers) d.fact) g there)))

  -- a call sends a fact to a target
  has_sent : (c : NodeCall) (target : MethodNo) (sent : SiteFact) (x : Edge) → n.op ≡ Call c → Contains a.facts (may_call (node_at m n) target)
      → Contains ((t a).event l n c d.fact) sent → Contains (sent_to a m l n d c target sent) x → Contains ones x
  has_sent c target sent x is call event there =
      last x (Contains-append_right (raised a m l n d) (if_call (call_in n.op) (called a m l n d)) x
      (in_call (call_in n.op) c (called a m l n d) x (ap call_in is)
      (in_flat_map (λ (k : MethodNo). flat_map (sent_to a m l n d c k) ((t a).event l n c d.fact)) (targets a m l n d) target x
      (called_at a.facts (node_at m n) target call)
      (in_flat_map (sent_to a m l n d c target) ((t a).event l n c d.fact) sent x event there))))

  pub has_entered : (c : NodeCall) (target : MethodNo) (sent : SiteFact) → n.op ≡ Call c → Contains a.facts (may_call (node_at m n) target)
      → IsOfFile a.program target → Contains ((t a).event l n c d.fact) sent
      → Contains ones (edge (Some target) ((t a).enter (by_call c) sent) (spots.Node 0) ((t a).enter (by_call c) sent))
  has_entered c target sent is call of event =
      let begins = edge (Some target) ((t a).enter (by_call c) sent) (spots.Node 0) ((t a).enter (by_call c) sent) in
      has_sent c target sent begins is call event
      (in_body (body_at a.program target) (in_file of.file of.place of.member) (begins ∷ []) (after m d.entry n.successors ((t a).answer l n c [] another sent)) begins
      (body_of_file a.program target of) (contains_first begins []))

  pub has_answered : (c : NodeCall) (target : MethodNo) (stub : StubMethod) (sent g : SiteFact) (offset : ℕ) → n.op ≡ Call c
      → Contains a.facts (may_call (node_at m n) target) → IsDescribedBy a.program target stub → Contains ((t a).event l n c d.fact) sent
      → Contains n.successors offset → Contains ((t a).answer l n c [] another sent) g → Contains ones (edge m d.entry (spots.Node offset) g)
  has_answered c target stub sent g offset is call of event leads there =
      let goes_on = edge m d.entry (spots.Node offset) g in
      has_sent c target sent goes_on is call event
      (in_body (body_at a.program target) (described stub) (edge (Some target) ((t a).enter (by_call c) sent) (spots.Node 0) ((t a).enter (by_call c) sent) ∷ [])
      (after m d.entry n.successors ((t a).answer l n c [] another sent)) goes_on (body_of_stub a.program target stub of)
      (in_after m d.entry g n.successors offset ((t a).answer l n c [] another sent) leads there))

  -- ---- from two

  has_joined : (c : NodeCall) (target : MethodNo) (sent out : SiteFact) (exit : Spot) (x : Edge) → n.op ≡ Call c → Contains a.facts (may_call (node_at m n) target)
      → IsOfFile a.program target → Contains ((t a).event l n c d.fact) sent
      → Contains (left_at a m l n d (edge (Some target) ((t a).enter (by_call c) sent) exit out) c target sent exit) x
      → Contains (from_two a m l n d (edge (Some target) ((t a).enter (by_call c) sent) exit out)) x
  has_joined c target sent out exit x is call of event there =
      let entry = (t a).enter (by_call c) sent in
      let q = edge (Some target) entry exit out in
      in_call (call_in n.op) c (λ (k : NodeCall). flat_map (returned_to a m l n d q k) (targets a m l n d)) x (ap call_in is)
      (in_flat_map (returned_to a m l n d q c) (targets a m l n d) target x (called_at a.facts (node_at m n) target call)
      (in_cond (same_method (Some target) (Some target)) (flat_map (joined a m l n d q c target) ((t a).event l n c d.fact)) x (method_itself (Some target))
      (in_flat_map (joined a m l n d q c target) ((t a).event l n c d.fact) sent x event
      (in_body (body_at a.program target) (in_file of.file of.place of.member) (cond (same_fact entry entry) (left_at a m l n d q c target sent exit) []) [] x
      (body_of_file a.program target of)
      (in_cond (same_fact entry entry) (left_at a m l n d q c target sent exit) x (fact_itself entry) there)))))

  pub has_returned : (c : NodeCall) (target : MethodNo) (sent out g : SiteFact) (offset : ℕ) → n.op ≡ Call c → Contains a.facts (may_call (node_at m n) target)
      → IsOfFile a.program target → Contains ((t a).event l n c d.fact) sent → Contains n.successors offset
      → Contains ((t a).next l n ((t a).leave l n (by_call c) target sent out)) g
      → Contains (from_two a m l n d (edge (Some target) ((t a).enter (by_call c) sent) spots.Returned out)) (edge m d.entry (spots.Node offset) g)
  has_returned c target sent out g offset is call of event leads there =
      has_joined c target sent out spots.Returned (edge m d.entry (spots.Node offset) g) is call of event
      (in_after m d.entry g n.successors offset ((t a).next l n ((t a).leave l n (by_call c) target sent out)) leads there)

  pub has_unwound : (c : NodeCall) (target : MethodNo) (sent out g : SiteFact) (s : Site) → n.op ≡ Call c → Contains a.facts (may_call (node_at m n) target)
      → IsOfFile a.program target → Contains ((t a).event l n c d.fact) sent → Contains a.facts (may_hold (thrown_by target) s)
      → Contains ((t a).raise l n (first_handler n.handlers) ((t a).leave l n (by_call c) target sent out)) g
      → Contains (from_two a m l n d (edge (Some target) ((t a).enter (by_call c) sent) spots.Thrown out)) (edge m d.entry (thrown_to n.handlers) g)
  has_unwound c target sent out g s is call of event throws there =
      let after_raise = (t a).raise l n (first_handler n.handlers) ((t a).leave l n (by_call c) target sent out) in
      has_joined c target sent out spots.Thrown (edge m d.entry (thrown_to n.handlers) g) is call of event
      (in_cond (list_any (is_thrown_by target) a.facts) (map (edge m d.entry (thrown_to n.handlers)) after_raise) (edge m d.entry (thrown_to n.handlers) g)
      (any_passes (is_thrown_by target) a.facts (may_hold (thrown_by target) s) throws (is_holder (thrown_by target)))
      (contains_map (edge m d.entry (thrown_to n.handlers)) after_raise g there))
