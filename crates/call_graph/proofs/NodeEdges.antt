-- What nodes store to, go to and may start, as what is added for each of them; and what all methods do.
use Rattle.std.proofs.Common.{◌≡◌, ◌⊎◌, ◌↔◌, ℕ, List, [], map, Option, Some, refl, sym, ◌∙◌, ap, subst, inl, inr}
use Rattle.std.specs.List.{slice_get, Contains}
use Rattle.std.proofs.lemmas.Option.{same_Some}
use Rattle.jvm_model.specs.declared.number.ClassNo.{ClassNo}
use Rattle.jvm_model.specs.declared.number.FieldNo.{FieldNo}
use Rattle.jvm_model.specs.declared.number.MethodNo.{MethodNo}
use Rattle.jvm_model.specs.Programs.{Program}
use Rattle.grouped_lists.specs.Groups.{values_at}
use Rattle.program_index.proofs.ListPlaces.{map_at, at_map}
use Rattle.hierarchy.proofs.ClassPlaces.{name_at-at, place_there}
use Rattle.least_sets.proofs.Places.{place_of, contains_at}
use Rattle.program_model.specs.Numbers.{name_at, IsClassNumber}
use Rattle.machine_nodes.specs.Nodes.{IsCodedInitialiser}
use Rattle.op_model.specs.declared.lowered.LoweredMethod.{LoweredMethod}
use Rattle.op_model.specs.declared.node.Node.{Node}
use Rattle.op_model.specs.declared.op.Op.TheVariants.{Store}
use Rattle.points_to_rules.specs.declared.running_method.RunningMethod.{RunningMethod}
use Rattle.points_to_rules.specs.Rules.{StartsAt}
use Rattle.call_graph.specs.declared.edges.Edge.{Edge}
use Rattle.ground.specs.declared.lists.FieldWrite.{FieldWrite}
use Rattle.call_graph.specs.declared.sets.Sets.{Sets}
use Rattle.ground.specs.Added.{AreAdded, OfOne}
use Rattle.call_graph.specs.Edges.{AreEdges, AreStores, IsEdgeFrom, IsEdgeOf, IsNodeThere, IsStoreOf, GoesTo, LeadsTo, OfRunning}
use Rattle.ground.specs.Lists.{nodes_of}
use Rattle.ground.proofs.Adding.{added_alone, added_as, added_both}

-- ---- what is added for callees

-- The edge is the caller's to the callee.
abbrev pub IsEdgeTo : MethodNo → MethodNo → Edge → Type 0
IsEdgeTo caller callee e = e ≡ record { callee = callee; caller = caller }

pub callees_added : (caller : MethodNo) (callees : List MethodNo) (a b : List Edge) → AreAdded (OfOne (IsEdgeTo caller) callees) a b → AreAdded (IsEdgeFrom caller (Contains callees)) a b
callees_added caller callees a b added =
    added_as (OfOne (IsEdgeTo caller) callees) (IsEdgeFrom caller (Contains callees)) a b
    (λ e (callee, there, is). (ap (λ (x : Edge). x.caller) is, subst (λ (m : MethodNo). Contains callees m) (sym (ap (λ (x : Edge). x.callee) is)) there))
    (λ e (same, there). (e.callee, there, (λ i. record { callee = e.callee; caller = same i })))
    added

-- by a property that the callees have
pub callees_are : (caller : MethodNo) (P : MethodNo → Type 0) {callees : List MethodNo} (a b : List Edge) → AreAdded (IsEdgeFrom caller (Contains callees)) a b
    → (found : List MethodNo) → callees ≡ found → ((m : MethodNo) → Contains found m ↔ P m) → AreAdded (IsEdgeFrom caller P) a b
callees_are caller P {callees = callees} a b added found same are =
    added_as (IsEdgeFrom caller (Contains callees)) (IsEdgeFrom caller P) a b
    (λ e (one, there). (one, (are e.callee).0 (subst (λ (ms : List MethodNo). Contains ms e.callee) same there)))
    (λ e (one, has). (one, subst (λ (ms : List MethodNo). Contains ms e.callee) (sym same) ((are e.callee).1 has)))
    added

-- ---- what a node does

-- what a node stores to
pub store_added : (m : MethodNo) (n : Node) (object value : ℕ) (field : FieldNo) → n.op ≡ Store object field value → (a b : List FieldWrite)
    → AreAdded (λ w. w ≡ record { method = m; field = field }) a b → AreAdded (IsStoreOf m n) a b
store_added m n object value field is a b added =
    added_as (λ w. w ≡ record { method = m; field = field }) (IsStoreOf m n) a b
    (λ w same. (ap (λ (x : FieldWrite). x.method) same, (object, value, is ∙ ap (λ (f : FieldNo). Store object f value) (sym (ap (λ (x : FieldWrite). x.field) same)))))
    (λ w (same, (o, v, stores)).
    let ops : Store object field value ≡ Store o w.field v = sym is ∙ stores in
    let fields : w.field ≡ field = cc in
    (λ i. record { method = same i; field = fields i }))
    added

-- the targets of a node's call are those at its number
pub targets_are : (s : Sets) (m : MethodNo) (n : Node) (number : ℕ) → slice_get s.calls.keys number ≡ Some (record { method = Some m; offset = n.offset })
    → ((k : ℕ) → slice_get s.calls.keys k ≡ Some (record { method = Some m; offset = n.offset }) → ◌≡◌ {A = Option ℕ} (Some number) (Some k))
    → (callee : MethodNo) → Contains (values_at s.targets.groups.items number) callee ↔ GoesTo s m n callee
targets_are s m n number stands only callee = (
  λ among. (number, stands, among),
  λ (k, at, there).
      let same : number ≡ k = same_Some number k (only k at) in
      subst (λ (ms : List MethodNo). Contains ms callee) (ap (λ (i : ℕ). values_at s.targets.groups.items i) (sym same)) there,
)

-- it may start the initialisers of the class that is its trigger
module _ (p : Program) (n : Node) where
  pub starts_by : (c : ClassNo) → IsClassNumber p c.0 → n.trigger ≡ Some c → (i : MethodNo) → IsCodedInitialiser p (name_at p c.0) i.0 → StartsAt p n i
  starts_by c number is i initialiser =
      let (class, stands) = place_there p.classes c.0 number in
      record {
        trigger = c;
        is_trigger = is;
        class = name_at p c.0;
        is_class = record { class = class; stands = stands; named = sym (name_at-at p c.0 class stands) };
        initialiser = initialiser;
      }

  pub started_by : (c : ClassNo) → n.trigger ≡ Some c → (i : MethodNo) → StartsAt p n i → IsCodedInitialiser p (name_at p c.0) i.0
  started_by c is i starts =
      let same : starts.trigger ≡ c = same_Some starts.trigger c (sym starts.is_trigger ∙ is) in
      let named : name_at p starts.trigger.0 ≡ starts.class = name_at-at p starts.trigger.0 starts.is_class.class starts.is_class.stands ∙ starts.is_class.named in
      subst (λ (k : ClassNo). IsCodedInitialiser p (name_at p k.0) i.0) same (subst (λ (name : List ℕ). IsCodedInitialiser p name i.0) (sym named) starts.initialiser)

-- listed they are what it may start
pub initialisers_are : (p : Program) (n : Node) (c : ClassNo) → IsClassNumber p c.0 → n.trigger ≡ Some c → (found : List MethodNo)
    → ((i : MethodNo) → Contains found i ↔ IsCodedInitialiser p (name_at p c.0) i.0) → (i : MethodNo) → Contains found i ↔ StartsAt p n i
initialisers_are p n c number is found are i = (λ among. starts_by p n c number is i ((are i).0 among), λ starts. (are i).1 (started_by p n c is i starts))

-- what a node goes to, and what it may start
pub edges_added : (p : Program) (s : Sets) (m : MethodNo) (n : Node) (a b c : List Edge) → AreAdded (IsEdgeFrom m (GoesTo s m n)) a b → AreAdded (IsEdgeFrom m (StartsAt p n)) b c
    → AreAdded (IsEdgeOf p s m n) a c
edges_added p s m n a b c goes starts =
    added_as (λ (e : Edge). IsEdgeFrom m (GoesTo s m n) e ⊎ IsEdgeFrom m (StartsAt p n) e) (IsEdgeOf p s m n) a c
    (λ e either. elim either [ inl (same, to) ↦ (same, inl to) | inr (same, start) ↦ (same, inr start) ])
    (λ e (same, leads). elim leads [ inl to ↦ inl (same, to) | inr start ↦ inr (same, start) ])
    (added_both (IsEdgeFrom m (GoesTo s m n)) (IsEdgeFrom m (StartsAt p n)) a b c goes starts)

-- ---- a method that may run

pub of_running : {Y : Type 0} (running : List MethodNo) (R : MethodNo → Node → Y → Type 0) (l : LoweredMethod) → Contains running l.method → (a b : List Y) → AreAdded (OfOne (R l.method) l.nodes) a b
    → AreAdded (OfRunning running R l) a b
of_running running R l runs a b added = added_as (OfOne (R l.method) l.nodes) (OfRunning running R l) a b (λ y of. (runs, of)) (λ y of. of.1) added

-- ---- methods and their nodes

module _ {Y : Type 0} (running : List MethodNo) (R : MethodNo → Node → Y → Type 0) (methods : List RunningMethod) where
  abbrev OfSome : Y → Type 0
  OfSome = OfOne (λ (r : RunningMethod). OfRunning running R r.method) methods

  -- what a node of a listed method does that may run
  to_some : (m : MethodNo) (n : Node) (y : Y) → IsNodeThere (map nodes_of methods) running m n → R m n y → OfSome y
  to_some m n y there does =
      let (k, at) = place_of (map nodes_of methods) there.lowered there.listed in
      let (r, stands, is) = map_at nodes_of methods k there.lowered at in
      let number : r.method.method ≡ m = ap (λ (l : LoweredMethod). l.method) is ∙ there.number in (
        r,
        contains_at methods k r stands,
        (
          subst (λ (i : MethodNo). Contains running i) (sym number) there.runs,
          (n, subst (λ (l : LoweredMethod). Contains l.nodes n) (sym is) there.stands, subst (λ (i : MethodNo). R i n y) (sym number) does),
        ),
      )

  -- and the other way round
  from_some : (y : Y) → OfSome y → (m : MethodNo) × (n : Node) × IsNodeThere (map nodes_of methods) running m n × R m n y
  from_some y (r, listed, (runs, (n, stands, does))) =
      let (k, at) = place_of methods r listed in (
        r.method.method,
        n,
        record {
          lowered = r.method;
          listed = contains_at (map nodes_of methods) k r.method (at_map nodes_of methods k r at);
          number = refl;
          runs = runs;
          stands = stands;
        },
        does,
      )

-- ---- all stores and all edges

pub all_stores : (methods : List RunningMethod) (running : List MethodNo) (writes : List FieldWrite)
    → AreAdded (OfOne (λ (r : RunningMethod). OfRunning running IsStoreOf r.method) methods) [] writes → AreStores (map nodes_of methods) running writes
all_stores methods running writes added = record {
  each = λ m field.
      let w : FieldWrite = record { method = m; field = field } in
      let alone = added_alone (OfOne (λ (r : RunningMethod). OfRunning running IsStoreOf r.method) methods) writes added w in (
        λ there.
            let (k, n, node, (same, stores)) = from_some running IsStoreOf methods w (alone.0 there) in
            (n, subst (λ (i : MethodNo). IsNodeThere (map nodes_of methods) running i n) (sym same) node, stores),
        λ some. alone.1 (to_some running IsStoreOf methods m some.0 w some.1 (refl, some.2)),
      );
}

pub all_edges : (p : Program) (methods : List RunningMethod) (s : Sets) (edges : List Edge)
    → AreAdded (OfOne (λ (r : RunningMethod). OfRunning s.running.keys (IsEdgeOf p s) r.method) methods) [] edges → AreEdges p (map nodes_of methods) s edges
all_edges p methods s edges added = record {
  each = λ callee caller.
      let e : Edge = record { callee = callee; caller = caller } in
      let alone = added_alone (OfOne (λ (r : RunningMethod). OfRunning s.running.keys (IsEdgeOf p s) r.method) methods) edges added e in (
        λ there.
            let (k, n, node, (same, leads)) = from_some s.running.keys (IsEdgeOf p s) methods e (alone.0 there) in (
              n,
              subst (λ (i : MethodNo). IsNodeThere (map nodes_of methods) s.running.keys i n) (sym same) node,
              subst (λ (i : MethodNo). LeadsTo p s i n callee) (sym same) leads,
            ),
        λ some. alone.1 (to_some s.running.keys (IsEdgeOf p s) methods caller some.0 e some.1 (refl, some.2)),
      );
}
