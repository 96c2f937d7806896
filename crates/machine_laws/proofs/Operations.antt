-- Operations that go on, at each successor of their node.
use Rattle.std.proofs.Common.{◌≡◌, ℕ, zero, ◌<◌, ◌≤◌, List, [], ◌∷◌, length, map, Some, None, refl, sym, ap, subst, arith}
use Rattle.std.specs.List.{Contains}
use Rattle.std.specs.Prelude.{slice_set}
use Rattle.jvm_model.specs.declared.site.Site.{Site}
use Rattle.op_model.specs.declared.op.Op.{Op}
use Rattle.op_model.specs.declared.op.Op.TheVariants.{Assign, Load, Store, LoadElement, StoreElement, LoadStatic, StoreStatic, New, NewArray, Constant, Call, Return, Throw, Cast, Probe}
use Rattle.op_model.specs.Supplies.{Given}
use Rattle.machine_bytecode.specs.Objects.{Subject, IsArrayOf, MayStand, ReadsElement, WritesElement, MakesArrays}
use Rattle.machine_bytecode.specs.States.{Dimension, Value, primitive_value, null_value, reference_to, fields, elements, World, State, updated, with_static, with_contents, with_object, new_object, slot_at, runs_on, moved_to}
use Rattle.machine_nodes.specs.NodeSteps.{AtNode, Leads}
use Rattle.machine_laws.specs.Progress.{with_arrays}
use Rattle.machine_laws.specs.NodeProgress.{CanLead, GoesTo, GoesToWith, dimensions_for}
use Rattle.machine_laws.proofs.Slots.{some_left, some_moved}

-- an operation leads to some slots and a world
pub record SomeWay (op : Op) (x : Subject) (before : World) (slots : List Value) (after : World) : Type 0 where
  pub left : List Value
  pub leads : Leads op x before slots left after

pub goes_with : (x : Subject) (given : Given) (s : State) (at : AtNode x given s) (op : Op) → at.now.node.op ≡ op → (after : World) → SomeWay op x s.world at.frame.slots after
    → (successor : ℕ) → Contains at.now.node.successors successor → GoesTo x given s at successor after
goes_with x given s at op is after way successor goes = record {
  next = runs_on (moved_to at.frame successor way.left ∷ at.below) after;
  step = record {
    left = way.left;
    world = after;
    next = successor;
    leads = subst (λ (o : Op). Leads o x s.world at.frame.slots way.left after) (sym is) way.leads;
    goes = goes;
    after = refl;
  };
  next_is = refl;
  world_is = refl;
}

-- ---- what arrays are made

same_sites : (sites : List Site) (lengths : List ℕ) → length lengths ≡ length sites → map (λ (d : Dimension). d.site) (dimensions_for sites lengths) ≡ sites
same_sites [] lengths e = refl
same_sites (site ∷ sites) [] e = absurd (omega (arith, e))
same_sites (site ∷ sites) (long ∷ lengths) e = ap (λ (more : List Site). site ∷ more) (same_sites sites lengths (omega (arith, e)))

some_dimension : (sites : List Site) (first : ℕ) (others : List ℕ) → length (first ∷ others) ≡ length sites → 1 ≤ length (dimensions_for sites (first ∷ others))
some_dimension [] first others e = absurd (omega (arith, e))
some_dimension (site ∷ sites) first others e = omega arith

makes_them : (x : Subject) (w : World) (sites : List Site) (first : ℕ) (others : List ℕ) → length (first ∷ others) ≡ length sites
    → MakesArrays x sites w (reference_to (length w.heap)) (with_arrays x w (dimensions_for sites (first ∷ others)))
makes_them x w sites first others e = record {
  dimensions = dimensions_for sites (first ∷ others);
  of_sites = same_sites sites (first ∷ others) e;
  some = some_dimension sites first others e;
  made_is = refl;
  after_is = refl;
}

-- a length for each site
zeros_long : (sites : List Site) → length (map (λ (site : Site). zero) sites) ≡ length sites
zeros_long [] = refl
zeros_long (site ∷ sites) = let e = zeros_long sites in omega (arith, e)

some_lengths : (sites : List Site) → 1 ≤ length sites → (first : ℕ) × (others : List ℕ) × (length (first ∷ others) ≡ length sites)
some_lengths [] some = absurd (omega arith)
some_lengths (site ∷ sites) some = let e = zeros_long sites in (zero, map (λ (each : Site). zero) sites, omega (arith, e))

-- ---- each operation

load_way : (x : Subject) (w : World) (slots : List Value) (array target : ℕ) (v : Value) → ReadsElement w (slot_at slots array) v → SomeWay (LoadElement array target) x w slots w
load_way x w slots array target v reads =
    let l = some_left (array ∷ []) (Some target) v slots in
    record { left = l.slots; leads = record { value = v; is_read = reads; are_left = l.are_left; same = refl } }

store_way : (x : Subject) (w : World) (slots : List Value) (array value : ℕ) (after : World) → WritesElement x.program w (slot_at slots array) (slot_at slots value) after
    → SomeWay (StoreElement array value) x w slots after
store_way x w slots array value after writes =
    let l = some_left (array ∷ value ∷ []) None primitive_value slots in
    record { left = l.slots; leads = (writes, l.are_left) }

make_way : (x : Subject) (w : World) (slots : List Value) (sites : List Site) (target : ℕ) (made : Value) (after : World) → MakesArrays x sites w made after
    → SomeWay (NewArray sites target) x w slots after
make_way x w slots sites target made after makes =
    let l = some_left [] (Some target) made slots in
    record { left = l.slots; leads = record { made = made; is_made = makes; are_left = l.are_left } }

abbrev AnyWay : Op → Subject → World → List Value → Type 0
AnyWay op x w slots = (after : World) × SomeWay op x w slots after

ways : (op : Op) (x : Subject) (w : World) (slots : List Value) → CanLead op x w slots → AnyWay op x w slots
ways (Assign moves) x w slots one =
    let m = some_moved moves slots one in
    (w, record { left = m.slots; leads = (m.are_moved, refl) })
ways (Load object field target) x w slots has =
    let v : Value = has.values field.0 in
    let l = some_left (object ∷ []) (Some target) v slots in
    (w, record { left = l.slots; leads = record { value = v; is_read = record { to = has.to; values = has.values; holds = has.holds; is = refl }; are_left = l.are_left; same = refl } })
ways (Store object field value) x w slots has =
    let l = some_left (object ∷ value ∷ []) None primitive_value slots in (
      with_contents w has.to.place has.to.object (fields (updated has.values field.0 (slot_at slots value))),
      record { left = l.slots; leads = (record { to = has.to; values = has.values; holds = has.holds; is = refl }, l.are_left) },
    )
ways (LoadElement array target) x w slots has = (w, load_way x w slots array target (first_value has.of.array.values has.some) (record { of = has.of; among = first_among has.of.array.values has.some }))
  where
    first_value : (values : List Value) → 1 ≤ length values → Value
    first_value [] some = absurd (omega arith)
    first_value (v ∷ values) some = v

    first_among : (values : List Value) (some : 1 ≤ length values) → Contains values (first_value values some)
    first_among [] some = absurd (omega arith)
    first_among (v ∷ values) some = (0, omega arith, refl)
ways (StoreElement array value) x w slots can = (
  with_contents w can.has.of.array.to.place can.has.of.array.to.object (elements (slice_set can.has.of.array.values 0 (slot_at slots value))),
  store_way x w slots array value _ (record { of = can.has.of; suits = can.suits; index = 0; inside = can.has.some; is = refl }),
)
ways (LoadStatic field target) x w slots can =
    let l = some_left [] (Some target) (w.statics field.0) slots in
    (w, record { left = l.slots; leads = record { value = w.statics field.0; is_read = refl; are_left = l.are_left; same = refl } })
ways (StoreStatic field value) x w slots can =
    let l = some_left (value ∷ []) None primitive_value slots in
    (with_static w field.0 (slot_at slots value), record { left = l.slots; leads = (refl, l.are_left) })
ways (New site target) x w slots can =
    let l = some_left [] (Some target) (reference_to (length w.heap)) slots in (
      with_object w (new_object x.program site x.property.initial),
      record { left = l.slots; leads = record { made = reference_to (length w.heap); is_made = record { made_is = refl; after_is = refl }; are_left = l.are_left } },
    )
ways (NewArray sites target) x w slots some =
    let l = some_lengths sites some in
    (_, make_way x w slots sites target _ _ (makes_them x w sites l.0 l.1 l.2))
ways (Constant site target) x w slots can =
    let l = some_left [] (Some target) can.0 slots in
    (w, record { left = l.slots; leads = record { value = can.0; is_read = can.1; are_left = l.are_left; same = refl } })
ways (Call call) x w slots can = absurd can
ways (Return value) x w slots can = absurd can
ways (Throw value) x w slots can = absurd can
ways (Cast class slot) x w slots passes = (w, record { left = slots; leads = (passes, (λ z. refl), refl) })
ways (Probe slot) x w slots to =
    let l = some_left (slot ∷ []) None primitive_value slots in
    (w, record { left = l.slots; leads = ((to, refl), l.are_left) })

-- ---- the laws

pub operations_go_on : (x : Subject) (given : Given) (s : State) (at : AtNode x given s) → CanLead at.now.node.op x s.world at.frame.slots
    → (successor : ℕ) → Contains at.now.node.successors successor → (after : World) × GoesTo x given s at successor after
operations_go_on x given s at can successor goes =
    let way = ways at.now.node.op x s.world at.frame.slots can in
    (way.0, goes_with x given s at at.now.node.op refl way.0 way.1 successor goes)

pub stores_element : (x : Subject) (given : Given) (s : State) (at : AtNode x given s) (array value : ℕ) → at.now.node.op ≡ StoreElement array value
    → (of : IsArrayOf null_value s.world (slot_at at.frame.slots array)) → MayStand x.program s.world of.array.to.object.class (slot_at at.frame.slots value)
    → (index : ℕ) → index < length of.array.values → (successor : ℕ) → Contains at.now.node.successors successor
    → GoesTo x given s at successor (with_contents s.world of.array.to.place of.array.to.object (elements (slice_set of.array.values index (slot_at at.frame.slots value))))
stores_element x given s at array value is of suits index inside =
    goes_with x given s at (StoreElement array value) is _ (store_way x s.world at.frame.slots array value _ (record { of = of; suits = suits; index = index; inside = inside; is = refl }))

pub makes_arrays : (x : Subject) (given : Given) (s : State) (at : AtNode x given s) (sites : List Site) (target : ℕ) → at.now.node.op ≡ NewArray sites target
    → (first : ℕ) (others : List ℕ) → length (first ∷ others) ≡ length sites → (successor : ℕ) → Contains at.now.node.successors successor
    → GoesTo x given s at successor (with_arrays x s.world (dimensions_for sites (first ∷ others)))
makes_arrays x given s at sites target is first others e =
    goes_with x given s at (NewArray sites target) is _ (make_way x s.world at.frame.slots sites target _ _ (makes_them x s.world sites first others e))

pub loads_element : (x : Subject) (given : Given) (s : State) (at : AtNode x given s) (array target : ℕ) → at.now.node.op ≡ LoadElement array target
    → (of : IsArrayOf null_value s.world (slot_at at.frame.slots array)) (v : Value) → Contains of.array.values v
    → (successor : ℕ) → Contains at.now.node.successors successor → GoesToWith x given s at successor s.world target v
unfolding goes_with
loads_element x given s at array target is of v among successor goes =
    let l = some_left (array ∷ []) (Some target) v at.frame.slots in
    let way : SomeWay (LoadElement array target) x s.world at.frame.slots s.world =
    record { left = l.slots; leads = record { value = v; is_read = record { of = of; among = among }; are_left = l.are_left; same = refl } } in
    record { to = goes_with x given s at (LoadElement array target) is s.world way successor goes; reads = l.are_left.given target refl }
