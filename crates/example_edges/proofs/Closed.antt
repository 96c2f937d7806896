-- A list of edges is closed under each rule where the conclusions from its edges are among them, node by node: a test.
use Rattle.std.proofs.Common.{◌≡◌, ℕ, Bool, true, true≢false, ◌&&◌, cond, List, [], Option, Some, None, sym, ◌∙◌, ap, subst}
use Rattle.std.specs.List.{Contains, flat_map, list_all, list_any}
use Rattle.std.specs.Option.{option_to_list}
use Rattle.std.proofs.lemmas.Bool.{and_from, and_parts}
use Rattle.jvm_model.specs.declared.number.ClassNo.{ClassNo}
use Rattle.jvm_model.specs.declared.number.MethodNo.{MethodNo}
use Rattle.jvm_model.specs.declared.stub.StubArgument.{StubArgument}
use Rattle.jvm_model.specs.declared.stub.StubMethod.{StubMethod}
use Rattle.jvm_model.specs.declared.stub.StubResult.{StubResult}
use Rattle.jvm_model.specs.declared.stub.StubResult.TheVariants as results
use Rattle.op_model.specs.declared.lowered.LoweredMethod.{LoweredMethod}
use Rattle.op_model.specs.declared.node.Node.{Node}
use Rattle.op_model.specs.declared.node.Spot.{Spot}
use Rattle.op_model.specs.declared.node.Spot.TheVariants as spots
use Rattle.op_model.specs.declared.op.Call.{Call as NodeCall}
use Rattle.op_model.specs.declared.op.Op.TheVariants.{Call}
use Rattle.least_sets.specs.Rules.{IsClosed}
use Rattle.list_laws.proofs.Members.{contains_none, contains_only}
use Rattle.list_laws.proofs.Tests.{each_passes}
use Rattle.points_to_rules.specs.Facts.{may_call}
use Rattle.stage_facts.specs.Facts.{SiteFact, none_yet}
use Rattle.stage_transfer.specs.Calls.{Entering, Result, another, by_call}
use Rattle.stage_transfer_laws.proofs.Members.{one_passes}
use Rattle.stage_edges.specs.Rules.{Edge, edge, Enters, GoesTo, IsNode, IsStub, MayThrow, ThrowsClass, answers, before, call_returns, called, described_raises, enters, given_by, goes_on, held, kept_slots, listed, node_at, raises, resumes, returns, slot_of, start, triggered, unwinds}
use Rattle.stage_edges.specs.Edges.{StageInstance}
use Rattle.example_edges.proofs.Equal.{edge_is, method_itself, same_edge, same_method, same_spot, spot_itself}
use Rattle.example_edges.proofs.Nodes.{Example, IsPlain, at_node, gives_of, is_throw, known_of, node_plain, start as start_nodes, starts_nothing, stub_plain, subject_of}
use Rattle.example_edges.proofs.Conclusions.{first_handler, from_one, from_two, t, thrown_to}
use Rattle.example_edges.proofs.Complete.{has_answered, has_entered, has_goes, has_leaves, has_raised, has_returned, has_unwound, where_to}

-- ---- the test

abbrev pub among : List Edge → Edge → Bool
among edges e = list_any (same_edge e) edges

abbrev pub stands_at : Option MethodNo → Spot → Edge → Bool
stands_at m spot d = same_method m d.method && same_spot spot d.spot

-- The conclusions from the edge, and from it with each other one, are among the edges.
abbrev follow_from : Example → Option MethodNo → LoweredMethod → Node → Edge → Bool
follow_from a m l n d =
    list_all (among a.edges) (from_one a m l n d) && list_all (λ (q : Edge). list_all (among a.edges) (from_two a m l n d q)) a.edges

abbrev pub follow_at : Example → Option MethodNo → LoweredMethod → Node → Edge → Bool
follow_at a m l n d = cond (stands_at m (before n) d) (follow_from a m l n d) true

abbrev pub closed_at : Example → Option MethodNo → LoweredMethod → Node → Bool
closed_at a m l n = list_all (follow_at a m l n) a.edges

abbrev pub closed_in : Example → Option MethodNo → LoweredMethod → Bool
closed_in a m l = list_all (closed_at a m l) l.nodes

-- It is met at each node of the methods, and of the start of the program.
pub record IsClosedByTest (a : Example) : Type 0 where
  pub begins : among a.edges (edge None none_yet (spots.Node 0) none_yet) ≡ true
  pub methods : list_all (λ (l : LoweredMethod). closed_in a (Some l.method) l) a.methods ≡ true
  pub starts : (k : MethodNo) (c : ClassNo) → closed_in a None (start_nodes a k c) ≡ true

pub stands_itself : (m : Option MethodNo) (s : Spot) (e f : SiteFact) → stands_at m s (edge m e s f) ≡ true
stands_itself m s e f = and_from (same_method m m) (same_spot s s) (method_itself m) (spot_itself s)

pub is_among : (edges : List Edge) (e : Edge) → among edges e ≡ true → Contains edges e
is_among edges e is = let found = one_passes (same_edge e) edges is in subst (λ (d : Edge). Contains edges d) (sym (edge_is e found.0 found.2)) found.1

-- ---- each rule

module _ (a : Example) (plain : IsPlain a) (test : IsClosedByTest a) where
  at_each : (m : Option MethodNo) (l : LoweredMethod) (n : Node) → IsNode (subject_of a) (gives_of a) m l n → closed_at a m l n ≡ true
  at_each = at_node a plain (λ m l n. closed_at a m l n ≡ true)
      (λ l there n stands. each_passes (closed_at a (Some l.method) l) l.nodes n (each_passes (λ (k : LoweredMethod). closed_in a (Some k.method) k) a.methods l test.methods there) stands)
      (λ k c n stands. each_passes (closed_at a None (start_nodes a k c)) (start_nodes a k c).nodes n (test.starts k c) stands)

  module _ (m : Option MethodNo) (l : LoweredMethod) (n : Node) (node : IsNode (subject_of a) (gives_of a) m l n) (e f : SiteFact)
      (there : Contains a.edges (edge m e (before n) f)) where
    abbrev premise : Edge
    premise = edge m e (before n) f

    follow : follow_from a m l n premise ≡ true
    follow =
        subst (λ (b : Bool). cond b (follow_from a m l n premise) true ≡ true) (stands_itself m (before n) e f)
        (each_passes (follow_at a m l n) a.edges premise (at_each m l n node) there)

    by_one : (to : Edge) → Contains (from_one a m l n premise) to → Contains a.edges to
    by_one to concluded =
        is_among a.edges to (each_passes (among a.edges) (from_one a m l n premise) to
        (and_parts (list_all (among a.edges) (from_one a m l n premise))
        (list_all (λ (q : Edge). list_all (among a.edges) (from_two a m l n premise q)) a.edges) follow).0 concluded)

    by_two : (q to : Edge) → Contains a.edges q → Contains (from_two a m l n premise q) to → Contains a.edges to
    by_two q to second concluded =
        is_among a.edges to (each_passes (among a.edges) (from_two a m l n premise q) to
        (each_passes (λ (p : Edge). list_all (among a.edges) (from_two a m l n premise p)) a.edges q
        (and_parts (list_all (among a.edges) (from_one a m l n premise))
        (list_all (λ (p : Edge). list_all (among a.edges) (from_two a m l n premise p)) a.edges) follow).1 second) concluded)

    -- what is thrown goes where the handlers say
    goes_to : (class : List ℕ) (handler : Option ℕ) (spot : Spot) → GoesTo (subject_of a) n class handler spot
        → (first_handler n.handlers ≡ handler) × (thrown_to n.handlers ≡ spot)
    goes_to class handler spot goes = where_to (subject_of a) n class handler spot (node_plain a plain m l n node).handlers goes

    raised_to : (handler : Option ℕ) (spot : Spot) (source g : SiteFact) → (first_handler n.handlers ≡ handler) × (thrown_to n.handlers ≡ spot)
        → Contains ((t a).raise l n handler source) g
        → (Contains ((t a).raise l n (first_handler n.handlers) source) g → Contains a.edges (edge m e (thrown_to n.handlers) g)) → Contains a.edges (edge m e spot g)
    raised_to handler spot source g way after then =
        subst (λ (s : Spot). Contains a.edges (edge m e s g)) way.1
        (then (subst (λ (h : Option ℕ). Contains ((t a).raise l n h source) g) (sym way.0) after))

    raise_on : (class : List ℕ) (handler : Option ℕ) (spot : Spot) (g : SiteFact) → ThrowsClass (subject_of a) (known_of a) l n class
        → GoesTo (subject_of a) n class handler spot → Contains ((t a).raise l n handler f) g → Contains a.edges (edge m e spot g)
    raise_on class handler spot g (listed number in_list is) goes after =
        raised_to handler spot f g (goes_to class handler spot goes) after
        (λ raises_there. by_one (edge m e (thrown_to n.handlers) g) (has_raised a m l n premise number in_list g raises_there))
    raise_on class handler spot g (held z h s op slot holds throwable is) goes after =
        absurd (true≢false (sym (ap is_throw op) ∙ (node_plain a plain m l n node).no_throw))

    answer_on : (sent g : SiteFact) (c : NodeCall) (target : MethodNo) (stub : StubMethod) (parameters : List (List ℕ)) (result : StubResult) (offset : ℕ) → n.op ≡ Call c
        → Contains a.facts (may_call (node_at m n) target) → IsStub (subject_of a) target stub parameters → Contains stub.returns result → Contains n.successors offset
        → Contains ((t a).event l n c f) sent
        → Contains ((t a).answer l n c (kept_slots c stub parameters) (given_by m n c stub parameters result) sent) g → Contains a.edges (edge m e (spots.Node offset) g)
    answer_on sent g c target stub parameters result offset is call stubbed given leads event after =
        let plainly = stub_plain a plain target.0 stubbed.described.method stub stubbed.described.stands stubbed.described.of_stub in
        let void : results.Void ≡ result = contains_only results.Void result (subst (λ (rs : List StubResult). Contains rs result) plainly.returns given) in
        let keeps : kept_slots c stub parameters ≡ [] =
        ap (λ (ks : List StubArgument). flat_map (λ (k : StubArgument). option_to_list (slot_of c stub parameters k)) ks) plainly.keeps in
        let gives : given_by m n c stub parameters result ≡ another = ap (given_by m n c stub parameters) (sym void) in
        let answered : Contains ((t a).answer l n c [] another sent) g =
        subst (λ (r : Result). Contains ((t a).answer l n c [] r sent) g) gives
        (subst (λ (ks : List ℕ). Contains ((t a).answer l n c ks (given_by m n c stub parameters result) sent) g) keeps after) in
        by_one (edge m e (spots.Node offset) g) (has_answered a m l n premise c target stub sent g offset is call stubbed.described event leads answered)

    enter_on : (target : MethodNo) (by : Entering) (sent : SiteFact) → Enters (subject_of a) (known_of a) (t a) m l n target f by sent
        → Contains a.edges (edge (Some target) ((t a).enter by sent) (spots.Node 0) ((t a).enter by sent))
    enter_on target _ _ (called c sent is call of_file event) =
        by_one (edge (Some target) ((t a).enter (by_call c) sent) (spots.Node 0) ((t a).enter (by_call c) sent)) (has_entered a m l n premise c target sent is call of_file event)
    enter_on target _ _ (triggered starts) = absurd (starts_nothing a plain n target starts)

    return_on : (target : MethodNo) (c : NodeCall) (sent out g : SiteFact) (offset : ℕ) → Enters (subject_of a) (known_of a) (t a) m l n target f (by_call c) sent
        → Contains n.successors offset → Contains ((t a).next l n ((t a).leave l n (by_call c) target sent out)) g
        → Contains a.edges (edge (Some target) ((t a).enter (by_call c) sent) spots.Returned out) → Contains a.edges (edge m e (spots.Node offset) g)
    return_on target _ _ out g offset (called c sent is call of_file event) leads after at_exit =
        by_two (edge (Some target) ((t a).enter (by_call c) sent) spots.Returned out) (edge m e (spots.Node offset) g) at_exit
        (has_returned a m l n premise c target sent out g offset is call of_file event leads after)

    unwind_on : (target : MethodNo) (by : Entering) (sent out g : SiteFact) (class : List ℕ) (handler : Option ℕ) (spot : Spot)
        → Enters (subject_of a) (known_of a) (t a) m l n target f by sent → MayThrow (known_of a) target class → GoesTo (subject_of a) n class handler spot
        → Contains ((t a).raise l n handler ((t a).leave l n by target sent out)) g
        → Contains a.edges (edge (Some target) ((t a).enter by sent) spots.Thrown out) → Contains a.edges (edge m e spot g)
    unwind_on target _ _ out g class handler spot (called c sent is call of_file event) throws goes after at_exit =
        raised_to handler spot ((t a).leave l n (by_call c) target sent out) g (goes_to class handler spot goes) after
        (λ raises_there. by_two (edge (Some target) ((t a).enter (by_call c) sent) spots.Thrown out) (edge m e (thrown_to n.handlers) g) at_exit
        (has_unwound a m l n premise c target sent out g throws.0 is call of_file event throws.1 raises_there))
    unwind_on target _ _ out g class handler spot (triggered starts) throws goes after at_exit = absurd (starts_nothing a plain n target starts)

  pub closed : IsClosed (StageInstance (subject_of a) (gives_of a) (known_of a) a.setting) a.edges
  closed _ _ start hold = is_among a.edges (edge None none_yet (spots.Node 0) none_yet) test.begins
  closed _ _ (goes_on m l n e f g offset node no_call leads after) hold =
      by_one m l n node e f hold.0 (edge m e (spots.Node offset) g) (has_goes a m l n (edge m e (before n) f) no_call offset g leads after)
  closed _ _ (returns m l n e f g value node is after) hold =
      by_one m l n node e f hold.0 (edge m e spots.Returned g) (has_leaves a m l n (edge m e (before n) f) value is g after)
  closed _ _ (raises m l n e f g class handler spot node throws goes after) hold = raise_on m l n node e f hold.0 class handler spot g throws goes after
  closed _ _ (answers m l n e f sent g c target stub parameters result offset node is call stubbed given leads event after) hold =
      answer_on m l n node e f hold.0 sent g c target stub parameters result offset is call stubbed given leads event after
  closed _ _ (described_raises m l n e f sent g c target stub parameters class handler spot node is call stubbed throws goes event after) hold =
      let plainly = stub_plain a plain target.0 stubbed.described.method stub stubbed.described.stands stubbed.described.of_stub in
      absurd (contains_none class (subst (λ (names : List (List ℕ)). Contains names class) plainly.throws throws))
  closed _ _ (enters m l n e f sent target by node entering) hold = enter_on m l n node e f hold.0 target by sent entering
  closed _ _ (call_returns m l n e f sent out g target c offset node entering leads after) hold =
      return_on m l n node e f hold.0 target c sent out g offset entering leads after hold.1.0
  closed _ _ (resumes m l n e f out target exit node starts ends) hold = absurd (starts_nothing a plain n target starts)
  closed _ _ (unwinds m l n e f sent out g target by class handler spot node entering throws goes after) hold =
      unwind_on m l n node e f hold.0 target by sent out g class handler spot entering throws goes after hold.1.0
