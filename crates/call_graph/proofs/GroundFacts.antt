-- The facts of a ground, and that they are the least.
use Rattle.std.proofs.Common.{◌≡◌, ◌↔◌, List, [], ◌∷◌, ◌++◌, map, refl, sym, ◌∙◌, ap, subst, inl, inr}
use Rattle.std.specs.List.{Contains, slice_get}
use Rattle.std.proofs.lemmas.List.Elements.{All-contains, Contains-append_left, Contains-append_right, Contains-append_cases}
use Rattle.jvm_model.specs.declared.number.FieldNo.{FieldNo}
use Rattle.jvm_model.specs.declared.number.MethodNo.{MethodNo}
use Rattle.jvm_model.specs.Programs.{Program}
use Rattle.program_index.proofs.ListPlaces.{map_at, at_map}
use Rattle.least_sets.specs.Rules.{IsClosed, IsDerivable, IsLeast}
use Rattle.least_sets.proofs.Derivations.{Hold-larger}
use Rattle.least_sets.proofs.Joined.{derivable_is_closed}
use Rattle.least_sets.proofs.Places.{place_of, contains_at, All-from_contains}
use Rattle.op_model.specs.declared.lowered.LoweredMethod.{LoweredMethod}
use Rattle.op_model.specs.declared.node.Node.{Node}
use Rattle.points_to.specs.Solutions.{AreFactsOf}
use Rattle.points_to_rules.specs.Facts.{Fact, Holder, may_hold, may_run, may_call, may_write}
use Rattle.points_to_rules.specs.Rules.{IsNodeOf, node_of}
use Rattle.points_to_rules.specs.Writes.{write, target_writes, initialiser_writes}
use Rattle.points_to_numbers.specs.declared.item.Item.{Item}
use Rattle.points_to_numbers.specs.Numbered.{Numbered}
use Rattle.call_graph.specs.declared.edges.Edge.{Edge}
use Rattle.ground.specs.declared.lists.FieldWrite.{FieldWrite}
use Rattle.ground.specs.declared.lists.Lists.{Lists}
use Rattle.ground.specs.Findings.{Findings, gives_listed}
use Rattle.ground.specs.Lists.{HasFacts, holders_of, nodes_of}
use Rattle.call_graph.specs.Closing.{AreClosed, MayWrite, by_itself, by_callee}
use Rattle.call_graph.specs.Edges.{AreEdges, AreStores, IsNodeThere}
use Rattle.call_graph.specs.Grounds.{GroundInstance, IsGround}
use Rattle.call_graph.specs.Sets.{AreSetsOf}
use Rattle.call_graph.proofs.FoundFacts.{AreNumbered, found_holds, found_runs, found_calls, nothing_written, sets_in}

abbrev fact_of_write : FieldWrite → Fact
fact_of_write w = may_write w.method w.field

-- lists that tell the same have the same facts
same_facts : (l : Lists) (a b : List Fact) → HasFacts l a → HasFacts l b → (fact : Fact) → Contains a fact ↔ Contains b fact
same_facts l a b one other (may_hold h s) = (λ there. (other.holds h s).1 ((one.holds h s).0 there), λ there. (one.holds h s).1 ((other.holds h s).0 there))
same_facts l a b one other (may_run m) = (λ there. (other.runs m).1 ((one.runs m).0 there), λ there. (one.runs m).1 ((other.runs m).0 there))
same_facts l a b one other (may_call call m) = (λ there. (other.calls call m).1 ((one.calls call m).0 there), λ there. (one.calls call m).1 ((other.calls call m).0 there))
same_facts l a b one other (may_write m field) = (λ there. (other.writes m field).1 ((one.writes m field).0 there), λ there. (one.writes m field).1 ((other.writes m field).0 there))

-- a list with the facts of a least one is least
least_same : (Instance : List Fact → Fact → Type 0) (a b : List Fact) → ((fact : Fact) → Contains a fact ↔ Contains b fact) → IsLeast Instance a → IsLeast Instance b
least_same Instance a b same least = record {
  closed = λ premises fact instance hold. (same fact).0 (least.closed premises fact instance (Hold-larger (Contains b) (Contains a) (λ f there. (same f).1 there) premises hold));
  derivable = All-from_contains (IsDerivable Instance) b (λ fact there. All-contains (IsDerivable Instance) a fact least.derivable ((same fact).1 there));
}

-- What was found, and what methods may write.
abbrev facts_with : List Fact → Lists → List Fact
facts_with found l = found ++ map fact_of_write l.writes.keys

module _ (numbered : Numbered) (lists : Lists) (are : AreNumbered numbered lists) (items : List Item) (found : List Fact) (facts : AreFactsOf numbered items found)
    (sets : AreSetsOf numbered items (sets_in lists)) where
  abbrev all : List Fact
  all = facts_with found lists

  found_is_there : (fact : Fact) → Contains found fact → Contains all fact
  found_is_there fact there = Contains-append_left found (map fact_of_write lists.writes.keys) fact there

  -- a fact that is no write was found
  was_found : (fact : Fact) → ((w : FieldWrite) → fact_of_write w ≡ fact → ⊥) → Contains all fact → Contains found fact
  was_found fact none there = elim (Contains-append_cases found (map fact_of_write lists.writes.keys) fact there) [
    | inl before ↦ before
    | inr later ↦
        let (k, at) = place_of (map fact_of_write lists.writes.keys) fact later in
        let (w, stands, is) = map_at fact_of_write lists.writes.keys k fact at in
        absurd (none w is)
  ]

  write_there : (m : MethodNo) (field : FieldNo) → Contains all (may_write m field) → Contains lists.writes.keys (record { method = m; field = field })
  write_there m field there = elim (Contains-append_cases found (map fact_of_write lists.writes.keys) (may_write m field) there) [
    | inl before ↦ absurd (nothing_written numbered lists are items found facts sets m field before)
    | inr later ↦
        let (k, at) = place_of (map fact_of_write lists.writes.keys) (may_write m field) later in
        let (w, stands, is) = map_at fact_of_write lists.writes.keys k (may_write m field) at in
        let methods : w.method ≡ m = cc in
        let fields : w.field ≡ field = cc in
        subst (λ (v : FieldWrite). Contains lists.writes.keys v) (λ i. record { method = methods i; field = fields i }) (contains_at lists.writes.keys k w stands)
  ]

  there_written : (m : MethodNo) (field : FieldNo) → Contains lists.writes.keys (record { method = m; field = field }) → Contains all (may_write m field)
  there_written m field there =
      let (k, at) = place_of lists.writes.keys (record { method = m; field = field }) there in
      let stands = at_map fact_of_write lists.writes.keys k (record { method = m; field = field }) at in
      Contains-append_right found (map fact_of_write lists.writes.keys) (may_write m field) (contains_at (map fact_of_write lists.writes.keys) k (may_write m field) stands)

  has_facts : HasFacts lists all
  has_facts = record {
    holds = λ h s. (
      λ there. (found_holds numbered lists are items found facts sets h s).0 (was_found (may_hold h s) (λ w e. cc) there),
      λ held. found_is_there (may_hold h s) ((found_holds numbered lists are items found facts sets h s).1 held),
    );
    runs = λ m. (
      λ there. (found_runs numbered lists are items found facts sets m).0 (was_found (may_run m) (λ w e. cc) there),
      λ runs. found_is_there (may_run m) ((found_runs numbered lists are items found facts sets m).1 runs),
    );
    calls = λ call m. (
      λ there. (found_calls numbered lists are items found facts sets call m).0 (was_found (may_call call m) (λ w e. cc) there),
      λ target. found_is_there (may_call call m) ((found_calls numbered lists are items found facts sets call m).1 target),
    );
    writes = λ m field. (write_there m field, there_written m field);
  }

  -- ---- the least

  module _ (p : Program) (stores : List FieldWrite) (edges : List Edge) (are_stores : AreStores (map nodes_of lists.methods.items) lists.running.keys stores)
      (are_edges : AreEdges p (map nodes_of lists.methods.items) (sets_in lists) edges) (closed : AreClosed stores edges lists.writes.keys) where
    abbrev listed : List LoweredMethod
    listed = map nodes_of lists.methods.items

    abbrev Rule : List Fact → Fact → Type 0
    Rule = GroundInstance p listed found

    -- a node of a listed method
    to_node : (m : MethodNo) (l : LoweredMethod) (n : Node) → Contains all (may_run m) → IsNodeOf (gives_listed listed) m l n → IsNodeThere listed lists.running.keys m n
    to_node m l n runs is =
        let (x, among, number, answer) = is.given in
        let same : l ≡ x = cc in
        record {
          lowered = x;
          listed = among;
          number = λ i. record { 0 = number i };
          runs = (has_facts.runs m).0 runs;
          stands = subst (λ (y : LoweredMethod). Contains y.nodes n) same is.stands;
        }

    from_node : (m : MethodNo) (n : Node) (there : IsNodeThere listed lists.running.keys m n) → IsNodeOf (gives_listed listed) m there.lowered n
    from_node m n there = record { given = (there.lowered, there.listed, ap (λ (k : MethodNo). k.0) there.number, refl); stands = there.stands }

    rule_closed : IsClosed Rule all
    rule_closed premises fact (inl (none, there)) hold = found_is_there fact there
    rule_closed _ _ (inr (write m l n object value field is is_op)) hold =
        let node = to_node m l n hold.0 is in
        there_written m field ((closed.each m field).1 (by_itself m field ((are_stores.each m field).1 (n, node, (object, value, is_op)))))
    rule_closed _ _ (inr (target_writes m l n target field is)) hold =
        let node = to_node m l n hold.0 is in
        let edge = (are_edges.each target m).1 (n, node, inl ((has_facts.calls (node_of m n) target).0 hold.1.0)) in
        there_written m field ((closed.each m field).1 (by_callee target m field edge ((closed.each target field).0 (write_there target field hold.1.1.0))))
    rule_closed _ _ (inr (initialiser_writes m l n i field is starts)) hold =
        let node = to_node m l n hold.0 is in
        let edge = (are_edges.each i m).1 (n, node, inr starts) in
        there_written m field ((closed.each m field).1 (by_callee i m field edge ((closed.each i field).0 (write_there i field hold.1.0))))

    found_derivable : (fact : Fact) → Contains found fact → IsDerivable Rule fact
    found_derivable fact there = derivable_is_closed Rule [] fact (inl (refl, there)) tt

    run_derivable : (m : MethodNo) (n : Node) → IsNodeThere listed lists.running.keys m n → IsDerivable Rule (may_run m)
    run_derivable m n node = found_derivable (may_run m) ((found_runs numbered lists are items found facts sets m).1 node.runs)

    write_derivable : (m : MethodNo) (field : FieldNo) → MayWrite stores edges m field → IsDerivable Rule (may_write m field)
    write_derivable _ _ (by_itself m field own) =
        let (n, node, stored) = (are_stores.each m field).0 own in
        derivable_is_closed Rule (may_run m ∷ []) (may_write m field) (inr (write m node.lowered n stored.0 stored.1 field (from_node m n node) stored.2)) (run_derivable m n node, tt)
    write_derivable _ _ (by_callee callee caller field edge may) =
        let (n, node, leads) = (are_edges.each callee caller).0 edge in
        let below = write_derivable callee field may in
        elim leads [
          | inl target ↦
              let called = found_derivable (may_call (node_of caller n) callee) ((found_calls numbered lists are items found facts sets (node_of caller n) callee).1 target) in
              derivable_is_closed Rule (may_run caller ∷ may_call (node_of caller n) callee ∷ may_write callee field ∷ []) (may_write caller field)
              (inr (target_writes caller node.lowered n callee field (from_node caller n node))) (run_derivable caller n node, (called, (below, tt)))
          | inr starts ↦
              derivable_is_closed Rule (may_run caller ∷ may_write callee field ∷ []) (may_write caller field)
              (inr (initialiser_writes caller node.lowered n callee field (from_node caller n node) starts)) (run_derivable caller n node, (below, tt))
        ]

    all_derivable : (fact : Fact) → Contains all fact → IsDerivable Rule fact
    all_derivable fact there = elim (Contains-append_cases found (map fact_of_write lists.writes.keys) fact there) [
      | inl before ↦ found_derivable fact before
      | inr later ↦
          let (k, at) = place_of (map fact_of_write lists.writes.keys) fact later in
          let (w, stands, is) = map_at fact_of_write lists.writes.keys k fact at in
          subst (λ (f : Fact). IsDerivable Rule f) is (write_derivable w.method w.field ((closed.each w.method w.field).0 (contains_at lists.writes.keys k w stands)))
    ]

    least : IsLeast Rule all
    least = record { closed = rule_closed; derivable = All-from_contains (IsDerivable Rule) all all_derivable }

    -- so are the facts that lists tell, in whatever order
    pub is_ground : (g : Findings) → g.program ≡ p → g.methods ≡ listed → g.holders ≡ holders_of lists → HasFacts lists g.facts → IsGround p found g
    is_ground g program methods holders has = record {
      program = program;
      placed = λ h s held. let there = (has.holds h s).0 held in (there.0, ap (λ (hs : List Holder). slice_get hs there.0) holders ∙ there.2);
      least = subst (λ (ms : List LoweredMethod). IsLeast (GroundInstance p ms found) g.facts) (sym methods) (least_same Rule all g.facts (same_facts lists all g.facts has_facts has) least);
    }
