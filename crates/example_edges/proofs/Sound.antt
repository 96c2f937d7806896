-- A rule concludes whatever is among the lists of conclusions.
use Rattle.std.proofs.Common.{codes, ◌≡◌, inl, inr, ℕ, nat_eq, nat_lt, Bool, true, false, ◌&&◌, cond, List, [], ◌∷◌, ◌++◌, length, map, Option, Some, None, refl, sym, ◌∙◌, ap, subst, arith}
use Rattle.std.specs.List.{slice_get, flat_map, Contains, list_any}
use Rattle.std.specs.Option.{option_map, option_to_list}
use Rattle.std.proofs.lemmas.Bool.{and_parts, eqb-true, false≢true, ltb-true}
use Rattle.std.proofs.lemmas.List.Elements.{All-nil, Contains-append_cases}
use Rattle.std.proofs.lemmas.Option.{none-some, same_Some}
use Rattle.jvm_model.specs.declared.number.ClassNo.{ClassNo}
use Rattle.jvm_model.specs.declared.number.MethodNo.{MethodNo}
use Rattle.jvm_model.specs.declared.site.Site.{Site}
use Rattle.jvm_model.specs.declared.stub.StubArgument.{StubArgument}
use Rattle.jvm_model.specs.declared.stub.StubMethod.{StubMethod}
use Rattle.jvm_model.specs.declared.stub.StubResult.{StubResult}
use Rattle.jvm_model.specs.declared.stub.StubResult.TheVariants as results
use Rattle.jvm_model.specs.Descriptors.{IsFieldDescriptor, IsMethodDescriptor}
use Rattle.jvm_model.specs.Programs.{Body, Class, Method, in_file, described}
use Rattle.jvm_model.specs.Soundness.{plain_descriptor}
use Rattle.op_model.specs.declared.lowered.LoweredMethod.{LoweredMethod}
use Rattle.op_model.specs.declared.node.Node.{Node}
use Rattle.op_model.specs.declared.node.NodeRef.{NodeRef}
use Rattle.op_model.specs.declared.node.Spot.{Spot}
use Rattle.op_model.specs.declared.node.Spot.TheVariants as spots
use Rattle.op_model.specs.declared.op.Call.{Call as NodeCall}
use Rattle.op_model.specs.declared.op.Op.TheVariants.{Call}
use Rattle.list_laws.proofs.Members.{contained_in_map, contains_first, contains_none, contains_only}
use Rattle.list_laws.proofs.Places.{stands_below}
use Rattle.list_laws.proofs.Tests.{each_passes}
use Rattle.points_to_rules.specs.Calls.{IsOfFile}
use Rattle.points_to_rules.specs.Facts.{Fact, may_call, may_hold, may_run, may_write, thrown_by}
use Rattle.stage_facts.specs.Facts.{SiteFact}
use Rattle.stage_transfer.specs.Calls.{another, by_call}
use Rattle.stage_transfer_laws.proofs.Members.{of_flat_map, one_passes}
use Rattle.stage_transfer_laws.proofs.Paths.{same_bytes}
use Rattle.stage_edges.specs.Rules.{Edge, edge, IsNode, answers, before, call_returns, called as enters_by_call, enters, goes_on, kept_slots, listed, node_at, raises, returns, slot_of, unwinds}
use Rattle.stage_edges.specs.Edges.{StageInstance}
use Rattle.listed_answers.proofs.SameHolders.{holder_is}
use Rattle.example_edges.proofs.Equal.{fact_is, method_is, same_fact, same_method}
use Rattle.example_edges.proofs.Nodes.{Example, IsPlain, call_in, call_is, gives_of, known_of, node_plain, return_at, stub_plain, subject_of, value_in}
use Rattle.example_edges.proofs.Conclusions.{after, body_at, by_body, called, first_handler, from_one, from_two, goes, if_call, if_return, is_thrown_by, joined, leaves, left_at, raised, returned_to, sent_to, t, target_in, targets, targets_of, thrown_to, unless_call}
use Rattle.example_edges.proofs.Complete.{goes_there}

-- ---- lists

of_cond : {X : Type 0} (b : Bool) (xs : List X) (x : X) → Contains (cond b xs []) x → (b ≡ true) × Contains xs x
of_cond true xs x there = (refl, there)
of_cond false xs x there = absurd (contains_none x there)

-- An edge at one of some successors, with one of some facts.
record IsAfter (m : Option MethodNo) (e : SiteFact) (successors : List ℕ) (facts : List SiteFact) (x : Edge) : Type 0 where
  offset : ℕ
  leads : Contains successors offset
  fact : SiteFact
  there : Contains facts fact
  is : edge m e (spots.Node offset) fact ≡ x

of_after : (m : Option MethodNo) (e : SiteFact) (successors : List ℕ) (facts : List SiteFact) (x : Edge) → Contains (after m e successors facts) x
    → IsAfter m e successors facts x
of_after m e successors facts x there =
    let at = of_flat_map (λ (o : ℕ). map (edge m e (spots.Node o)) facts) successors x there in
    let from = contained_in_map (edge m e (spots.Node at.0)) facts x at.2 in
    record { offset = at.0; leads = at.1; fact = from.0; there = from.1; is = from.2 }

-- ---- targets

-- what a look-up that is mapped finds
of_map : {X Y : Type 0} (f : X → Y) (o : Option X) (y : Y) → option_map f o ≡ Some y → (x : X) × (o ≡ Some x) × (f x ≡ y)
of_map f None y e = absurd (none-some y e)
of_map f (Some x) y e = (x, refl, same_Some (f x) y e)

target_is : (r : NodeRef) (x : Fact) (target : MethodNo) → Contains (target_in r x) target → x ≡ may_call r target
target_is r (may_hold h s) target there = absurd (contains_none target there)
target_is r (may_run m) target there = absurd (contains_none target there)
target_is r (may_call q m) target there =
    let found = of_cond (same_method r.method q.method && nat_eq r.offset q.offset) (m ∷ []) target there in
    let parts = and_parts (same_method r.method q.method) (nat_eq r.offset q.offset) found.0 in
    let method = sym (method_is r.method q.method parts.0) in
    let offset = sym (eqb-true r.offset q.offset parts.1) in
    let same = contains_only m target found.1 in
    λ i. may_call (record { method = method i; offset = offset i }) (same i)
target_is r (may_write m f) target there = absurd (contains_none target there)

of_target : (facts : List Fact) (r : NodeRef) (target : MethodNo) → Contains (targets_of facts r) target → Contains facts (may_call r target)
of_target facts r target there =
    let found = of_flat_map (target_in r) facts target there in subst (λ (x : Fact). Contains facts x) (target_is r found.0 target found.2) found.1

thrown_is : (m : MethodNo) (x : Fact) → is_thrown_by m x ≡ true → (s : Site) × (may_hold (thrown_by m) s ≡ x)
thrown_is m (may_hold h s) is = let same = holder_is (thrown_by m) h is in (s, λ i. may_hold (same i) s)
thrown_is m (may_run n) is = absurd (false≢true is)
thrown_is m (may_call c n) is = absurd (false≢true is)
thrown_is m (may_write n f) is = absurd (false≢true is)

plain_is : IsMethodDescriptor plain_descriptor
plain_is = record {
  parameters = [];
  outcome = codes "V";
  spelled = refl;
  each = All-nil IsFieldDescriptor;
  units = omega arith;
  outcome_is = inl refl;
}

module _ (a : Example) (plain : IsPlain a) where
  abbrev pub rules : List Edge → Edge → Type 0
  rules = StageInstance (subject_of a) (gives_of a) (known_of a) a.setting

  of_file : (target : MethodNo) (o : Option Body) → body_at a.program target ≡ o → (in_files : List Edge) (x : Edge) → Contains (by_body o in_files []) x
      → IsOfFile a.program target × Contains in_files x
  of_file target None is in_files x there = absurd (contains_none x there)
  of_file target (Some (in_file file number member)) is in_files x there =
      let at = of_map (λ (k : Method). k.body) (slice_get a.program.methods target.0) (in_file file number member) is in
      (record { method = at.0; stands = at.1; file = file; place = number; member = member; of_file = at.2 }, there)
  of_file target (Some (described s)) is in_files x there = absurd (contains_none x there)

  module _ (m : Option MethodNo) (l : LoweredMethod) (n : Node) (node : IsNode (subject_of a) (gives_of a) m l n) (e f : SiteFact) where
    abbrev premise : Edge
    premise = edge m e (before n) f

    -- ---- from one edge

    from_goes : (o : Option NodeCall) → call_in n.op ≡ o → (x : Edge) → Contains (unless_call o (after m e n.successors ((t a).next l n f))) x → rules (premise ∷ []) x
    from_goes None none x there =
        let is = of_after m e n.successors ((t a).next l n f) x there in
        subst (λ (k : Edge). rules (premise ∷ []) k) is.is
        (goes_on m l n e f is.fact is.offset node (λ c call. none-some c (sym none ∙ ap call_in call)) is.leads is.there)
    from_goes (Some c) call x there = absurd (contains_none x there)

    from_leaves : (o : Option (Option ℕ)) → value_in n.op ≡ o → (x : Edge) → Contains (if_return o (map (edge m e spots.Returned) ((t a).next l n f))) x → rules (premise ∷ []) x
    from_leaves None none x there = absurd (contains_none x there)
    from_leaves (Some value) is x there =
        let from = contained_in_map (edge m e spots.Returned) ((t a).next l n f) x there in
        subst (λ (k : Edge). rules (premise ∷ []) k) from.2 (returns m l n e f from.0 value node (return_at n.op value is) from.1)

    class_of_number : (c : ClassNo) → Contains n.throws c → (class : Class) × (slice_get a.program.classes c.0 ≡ Some class)
    class_of_number c in_list =
        stands_below a.program.classes c.0
        (ltb-true c.0 (length a.program.classes) (each_passes (λ (k : ClassNo). nat_lt k.0 (length a.program.classes)) n.throws c (node_plain a plain m l n node).classes in_list))

    from_raised : (x : Edge) → Contains (raised a m l n premise) x → rules (premise ∷ []) x
    from_raised x there =
        let of = of_flat_map (λ (c : ClassNo). map (edge m e (thrown_to n.handlers)) ((t a).raise l n (first_handler n.handlers) f)) n.throws x there in
        let from = contained_in_map (edge m e (thrown_to n.handlers)) ((t a).raise l n (first_handler n.handlers) f) x of.2 in
        let class = class_of_number of.0 of.1 in
        subst (λ (k : Edge). rules (premise ∷ []) k) from.2
        (raises m l n e f from.0 class.0.name (first_handler n.handlers) (thrown_to n.handlers) node
        (listed of.0 of.1 (record { class = class.0; stands = class.1; named = refl }))
        (goes_there (subject_of a) n class.0.name n.handlers refl (node_plain a plain m l n node).handlers) from.1)

    -- ---- a call

    module _ (c : NodeCall) (is : n.op ≡ Call c) (target : MethodNo) (call : Contains a.facts (may_call (node_at m n) target)) (sent : SiteFact)
        (event : Contains ((t a).event l n c f) sent) where
      by_stub : (s : StubMethod) → body_at a.program target ≡ Some (described s) → (x : Edge) → Contains (after m e n.successors ((t a).answer l n c [] another sent)) x
          → rules (premise ∷ []) x
      by_stub s stub x there =
          let at = of_map (λ (k : Method). k.body) (slice_get a.program.methods target.0) (described s) stub in
          let plainly = stub_plain a plain target.0 at.0 s at.1 at.2 in
          let descriptor : IsMethodDescriptor s.descriptor =
          subst (λ (d : List ℕ). IsMethodDescriptor d) (sym (same_bytes s.descriptor plain_descriptor plainly.descriptor)) plain_is in
          let keeps : kept_slots c s descriptor.parameters ≡ [] =
          ap (λ (ks : List StubArgument). flat_map (λ (k : StubArgument). option_to_list (slot_of c s descriptor.parameters k)) ks) plainly.keeps in
          let to = of_after m e n.successors ((t a).answer l n c [] another sent) x there in
          let answered : Contains ((t a).answer l n c (kept_slots c s descriptor.parameters) another sent) to.fact =
          subst (λ (ks : List ℕ). Contains ((t a).answer l n c ks another sent) to.fact) (sym keeps) to.there in
          let void : Contains s.returns results.Void =
          subst (λ (rs : List StubResult). Contains rs results.Void) (sym plainly.returns) (contains_first results.Void []) in
          subst (λ (k : Edge). rules (premise ∷ []) k) to.is
          (answers m l n e f sent to.fact c target s descriptor.parameters results.Void to.offset node is call
          (record { described = record { method = at.0; stands = at.1; of_stub = at.2; concrete = plainly.concrete }; descriptor = descriptor; are = refl }) void to.leads event answered)

      from_sent : (o : Option Body) → body_at a.program target ≡ o → (x : Edge)
          → Contains (by_body o (edge (Some target) ((t a).enter (by_call c) sent) (spots.Node 0) ((t a).enter (by_call c) sent) ∷ []) (after m e n.successors ((t a).answer l n c [] another sent))) x
          → rules (premise ∷ []) x
      from_sent None body x there = absurd (contains_none x there)
      from_sent (Some (in_file file number member)) body x there =
          let begins = edge (Some target) ((t a).enter (by_call c) sent) (spots.Node 0) ((t a).enter (by_call c) sent) in
          let of = of_file target (Some (in_file file number member)) body (begins ∷ []) x there in
          subst (λ (k : Edge). rules (premise ∷ []) k) (contains_only begins x there)
          (enters m l n e f sent target (by_call c) node (enters_by_call c sent is call of.0 event))
      from_sent (Some (described s)) body x there = by_stub s body x there

      -- ---- and an exit

      module _ (of : IsOfFile a.program target) (out : SiteFact) where
        from_left : (exit : Spot) (x : Edge)
            → Contains (left_at a m l n premise (edge (Some target) ((t a).enter (by_call c) sent) exit out) c target sent exit) x
            → rules (premise ∷ edge (Some target) ((t a).enter (by_call c) sent) exit out ∷ []) x
        from_left (spots.Node offset) x there = absurd (contains_none x there)
        from_left spots.Returned x there =
            let to = of_after m e n.successors ((t a).next l n ((t a).leave l n (by_call c) target sent out)) x there in
            subst (λ (k : Edge). rules (premise ∷ edge (Some target) ((t a).enter (by_call c) sent) spots.Returned out ∷ []) k) to.is
            (call_returns m l n e f sent out to.fact target c to.offset node (enters_by_call c sent is call of event) to.leads to.there)
        from_left spots.Thrown x there =
            let after_raise = (t a).raise l n (first_handler n.handlers) ((t a).leave l n (by_call c) target sent out) in
            let found = of_cond (list_any (is_thrown_by target) a.facts) (map (edge m e (thrown_to n.handlers)) after_raise) x there in
            let fact = one_passes (is_thrown_by target) a.facts found.0 in
            let thrown = thrown_is target fact.0 fact.2 in
            let from = contained_in_map (edge m e (thrown_to n.handlers)) after_raise x found.1 in
            subst (λ (k : Edge). rules (premise ∷ edge (Some target) ((t a).enter (by_call c) sent) spots.Thrown out ∷ []) k) from.2
            (unwinds m l n e f sent out from.0 target (by_call c) thrown.0.class (first_handler n.handlers) (thrown_to n.handlers) node
            (enters_by_call c sent is call of event) (thrown.0, subst (λ (k : Fact). Contains a.facts k) (sym thrown.1) fact.1, refl)
            (goes_there (subject_of a) n thrown.0.class n.handlers refl (node_plain a plain m l n node).handlers) from.1)

    from_called : (o : Option NodeCall) → call_in n.op ≡ o → (x : Edge) → Contains (if_call o (called a m l n premise)) x → rules (premise ∷ []) x
    from_called None none x there = absurd (contains_none x there)
    from_called (Some c) is x there =
        let target = of_flat_map (λ (k : MethodNo). flat_map (sent_to a m l n premise c k) ((t a).event l n c f)) (targets a m l n premise) x there in
        let sent = of_flat_map (sent_to a m l n premise c target.0) ((t a).event l n c f) x target.2 in
        from_sent c (call_is n.op c is) target.0 (of_target a.facts (node_at m n) target.0 target.1) sent.0 sent.1 (body_at a.program target.0) refl x sent.2

    pub by_one_edge : (x : Edge) → Contains (from_one a m l n premise) x → rules (premise ∷ []) x
    by_one_edge x there =
        elim (Contains-append_cases (goes a m l n premise) (leaves a m l n premise ++ (raised a m l n premise ++ if_call (call_in n.op) (called a m l n premise))) x there) [
          | inl one ↦ from_goes (call_in n.op) refl x one
          | inr rest ↦ elim (Contains-append_cases (leaves a m l n premise) (raised a m l n premise ++ if_call (call_in n.op) (called a m l n premise)) x rest) [
            | inl two ↦ from_leaves (value_in n.op) refl x two
            | inr last ↦ elim (Contains-append_cases (raised a m l n premise) (if_call (call_in n.op) (called a m l n premise)) x last) [
              | inl three ↦ from_raised x three
              | inr four ↦ from_called (call_in n.op) refl x four
            ]
          ]
        ]

    -- ---- from two

    from_joined : (c : NodeCall) → n.op ≡ Call c → (target : MethodNo) → Contains a.facts (may_call (node_at m n) target) → (sent : SiteFact)
        → Contains ((t a).event l n c f) sent → (q x : Edge) → Some target ≡ q.method → Contains (joined a m l n premise q c target sent) x → rules (premise ∷ q ∷ []) x
    from_joined c is target call sent event q x method there =
        let of = of_file target (body_at a.program target) refl (cond (same_fact ((t a).enter (by_call c) sent) q.entry) (left_at a m l n premise q c target sent q.spot) []) x there in
        let found = of_cond (same_fact ((t a).enter (by_call c) sent) q.entry) (left_at a m l n premise q c target sent q.spot) x of.1 in
        let entry = fact_is ((t a).enter (by_call c) sent) q.entry found.0 in
        let same : edge (Some target) ((t a).enter (by_call c) sent) q.spot q.fact ≡ q = λ i. edge (method i) (entry i) q.spot q.fact in
        subst (λ (k : Edge). rules (premise ∷ k ∷ []) x) same (from_left c is target call sent event of.0 q.fact q.spot x found.1)

    from_returned : (q : Edge) (o : Option NodeCall) → call_in n.op ≡ o → (x : Edge)
        → Contains (if_call o (λ (c : NodeCall). flat_map (returned_to a m l n premise q c) (targets a m l n premise))) x → rules (premise ∷ q ∷ []) x
    from_returned q None none x there = absurd (contains_none x there)
    from_returned q (Some c) is x there =
        let target = of_flat_map (returned_to a m l n premise q c) (targets a m l n premise) x there in
        let found = of_cond (same_method (Some target.0) q.method) (flat_map (joined a m l n premise q c target.0) ((t a).event l n c f)) x target.2 in
        let sent = of_flat_map (joined a m l n premise q c target.0) ((t a).event l n c f) x found.1 in
        from_joined c (call_is n.op c is) target.0 (of_target a.facts (node_at m n) target.0 target.1) sent.0 sent.1 q x (method_is (Some target.0) q.method found.0) sent.2

    pub by_two_edges : (q x : Edge) → Contains (from_two a m l n premise q) x → rules (premise ∷ q ∷ []) x
    by_two_edges q x there = from_returned q (call_in n.op) refl x there
