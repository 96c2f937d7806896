-- An operation reads slots of its method alone, and the object that stands for a constant is there from the start.
use Rattle.std.proofs.Common.{◌≡◌, ◌⊎◌, inl, inr, ℕ, ◌+◌, ◌<◌, ◌≤◌, Bool, true, false, if◌then◌else◌, List, [], ◌∷◌, length, map, Some, Contains, option_to_list, refl, sym, ap, ◌∙◌, subst, true≢false, arith}
use Rattle.std.specs.Bool.{MatchBool}
use Rattle.std.specs.Prelude.{slice_get}
use Rattle.std.proofs.lemmas.Option.{none-some}
use Rattle.jvm_model.specs.declared.site.Site.{Site}
use Rattle.jvm_model.specs.Instructions.{kinds_of}
use Rattle.jvm_model.specs.InstructionUses.{leads_right, within_dimensions}
use Rattle.jvm_model.specs.Names.{IsClassName}
use Rattle.program_index.proofs.ListPlaces.{map_at}
use Rattle.least_sets.proofs.Places.{contains_at, place_of}
use Rattle.simulation.proofs.ArrayNames.{arrays_no_class}
use Rattle.jvm_model.specs.Table.{UnitKind, any_kind, primitive, reference, UnitSource, popped, the_local, a_null, a_primitive, the_made, Action, plain, load_constant, load_element, store_element, probe_element, probe_array, probe_object, get_static, put_static, get_field, put_field, invoke_virtual, invoke_special, invoke_static, invoke_interface, make_object, make_array, throw_object, cast, leave_method, refused}
use Rattle.op_model.specs.declared.op.CallKind.{CallKind}
use Rattle.op_model.specs.declared.op.Move.{Move}
use Rattle.op_model.specs.declared.op.Op.{Op}
use Rattle.op_model.specs.declared.op.Op.TheVariants.{Assign, Load, Store, LoadElement, StoreElement, LoadStatic, StoreStatic, New, NewArray, Constant, Return, Throw, Cast, Probe}
use Rattle.op_model.specs.declared.op.Source.{Source}
use Rattle.machine_bytecode.specs.Start.{boot_site}
use Rattle.machine_bytecode.specs.States.{is_reference_type}
use Rattle.machine_nodes.specs.Slots.{argument_slots}
use Rattle.lowering_spec.specs.Moves.{IsSourceOf, IsWrite, stored, pushed, cleared}
use Rattle.lowering_spec.specs.Operations.{Placed, IsAssign, IsCallOp, IsFieldOp, IsOp, IsStaticOp, field_no, new_site, unit_slots, value_slot}
use Rattle.program_laws.proofs.Orders.{none_there, where_there}
use Rattle.points_to_rules.specs.ReadSlots.{read_slots, source_slots}
use Rattle.points_to_rules.proofs.Flattened.{among_flat}
use Rattle.simulation.proofs.Rows.{ShapeOf, IsProbe}
use Rattle.simulation.proofs.RowUnits.{IsThere, ReadsThere, made_there}

-- what is asked of an operation
pub record FitsIn (limit : ℕ) (op : Op) : Type 0 where
  pub reads : (z : ℕ) → Contains (read_slots op) z → z < limit
  pub constants : (s : Site) (target : ℕ) → op ≡ Constant s target → s ≡ boot_site s.class
  pub arrays : (sites : List Site) (target : ℕ) → op ≡ NewArray sites target → (s : Site) → Contains sites s → IsClassName s.class → ⊥

abbrev has_sites : Op → Bool
has_sites (Constant site target) = true
has_sites (NewArray sites target) = true
has_sites _ = false

-- an operation that loads no constant and makes no array
other : (limit : ℕ) (op is : Op) → op ≡ is → has_sites is ≡ false → ((z : ℕ) → Contains (read_slots is) z → z < limit) → FitsIn limit op
other limit op is e none reads = record {
  reads = λ z there. reads z (subst (λ (o : Op). Contains (read_slots o) z) e there);
  constants = λ s target made. absurd (true≢false (sym (ap has_sites made) ∙ ap has_sites e ∙ none));
  arrays = λ sites target made. absurd (true≢false (sym (ap has_sites made) ∙ ap has_sites e ∙ none));
}

-- ---- lists of slots

no_slot : (limit z : ℕ) → Contains [] z → z < limit
no_slot limit z there = absurd (none_there z there)

one_slot : (limit y : ℕ) → y < limit → (z : ℕ) → Contains (y ∷ []) z → z < limit
one_slot limit y lt z there = by (where_there y z [] there)
  where
    by : (y ≡ z) ⊎ Contains [] z → z < limit
    by (inl e) = omega (arith, e, lt)
    by (inr none) = no_slot limit z none

two_slots : (limit x y : ℕ) → x < limit → y < limit → (z : ℕ) → Contains (x ∷ y ∷ []) z → z < limit
two_slots limit x y first second z there = by (where_there x z (y ∷ []) there)
  where
    by : (x ≡ z) ⊎ Contains (y ∷ []) z → z < limit
    by (inl e) = omega (arith, e, first)
    by (inr later) = one_slot limit y second z later

unit_below : (kinds : List UnitKind) (slot z : ℕ) → Contains (argument_slots (unit_slots slot kinds)) z → z < slot + length kinds
unit_below [] slot z there = absurd (none_there z there)
unit_below (any_kind ∷ kinds) slot z there = let lt = unit_below kinds (slot + 1) z there in omega (arith, lt)
unit_below (primitive ∷ kinds) slot z there = let lt = unit_below kinds (slot + 1) z there in omega (arith, lt)
unit_below (reference ∷ kinds) slot z there = by (unit_below kinds (slot + 1) z) (where_there slot z (argument_slots (unit_slots (slot + 1) kinds)) there)
  where
    by : (Contains (argument_slots (unit_slots (slot + 1) kinds)) z → z < slot + 1 + length kinds) → (slot ≡ z) ⊎ Contains (argument_slots (unit_slots (slot + 1) kinds)) z
        → z < slot + length (reference ∷ kinds)
    by rest (inl e) = omega (arith, e)
    by rest (inr later) = let lt = rest later in omega (arith, lt)

value_below : (kinds : List UnitKind) (slot z : ℕ) → Contains (option_to_list (value_slot slot kinds)) z → z < slot + length kinds
value_below [] slot z there = absurd (none_there z there)
value_below (any_kind ∷ kinds) slot z there = absurd (none_there z there)
value_below (primitive ∷ kinds) slot z there = absurd (none_there z there)
value_below (reference ∷ kinds) slot z there = one_slot (slot + length (reference ∷ kinds)) slot (omega arith) z there

-- ---- moves

module _ (limit count operand base locals : ℕ) (within : base + count ≤ limit) (below : locals ≤ limit) where
  source_below : (u : UnitSource) (s : Source) (z : ℕ) → IsThere count operand locals u → IsSourceOf operand base u s → Contains (source_slots s) z → z < limit
  source_below (popped unit) s z there is has = one_slot limit (base + unit) (omega (arith, there, within)) z (subst (λ (x : Source). Contains (source_slots x) z) is has)
  source_below the_local s z there is has = one_slot limit operand (omega (arith, there, below)) z (subst (λ (x : Source). Contains (source_slots x) z) is has)
  source_below a_null s z there is has = no_slot limit z (subst (λ (x : Source). Contains (source_slots x) z) is has)
  source_below a_primitive s z there is has = no_slot limit z (subst (λ (x : Source). Contains (source_slots x) z) is has)
  source_below the_made s z there is has = absurd is

-- ---- each action

module _ (limit locals : ℕ) (i : Placed) (op : Op) (within : i.base + length i.row.pops ≤ limit) (below : locals ≤ limit)
    (moves_only : i.row.action ≡ plain → ReadsThere i.instruction.operand locals i.row) (put_value : i.row.action ≡ put_static → 0 < length i.row.pops)
    (put_both : i.row.action ≡ put_field → 1 < length i.row.pops) (leads : leads_right i.pool i.instruction ≡ true)
    (named : within_dimensions i.pool i.instruction ≡ true) where
  write_below : ReadsThere i.instruction.operand locals i.row → (m : Move) (z : ℕ) → IsWrite i.row i.instruction.operand i.base m → Contains (source_slots m.source) z → z < limit
  write_below reads m z (stored place u at target source) has =
      source_below limit (length i.row.pops) i.instruction.operand i.base locals within below u m.source z (reads.stores place u at) source has
  write_below reads m z (pushed place u at target source) has =
      source_below limit (length i.row.pops) i.instruction.operand i.base locals within below u m.source z (reads.pushes place u at) source has
  write_below reads m z (cleared place past lt target source) has = no_slot limit z (subst (λ (x : Source). Contains (source_slots x) z) source has)

  assigned : ReadsThere i.instruction.operand locals i.row → IsAssign i op → FitsIn limit op
  assigned reads a =
      other limit op (Assign a.moves) a.is refl (λ z there.
      let among = among_flat (λ (m : Move). source_slots m.source) a.moves z there in
      write_below reads among.of z ((a.each.each among.of).0 among.there).0 among.gives)

  -- the lowest popped unit
  first_below : 0 < length i.row.pops → i.base < limit
  first_below some = omega (arith, some, within)

  probed : 0 < length i.row.pops → op ≡ Probe i.base → FitsIn limit op
  probed some is = other limit op (Probe i.base) is refl (one_slot limit i.base (first_below some))

  called : (kind : CallKind) → IsCallOp i kind op → FitsIn limit op
  called kind c = other limit op _ c.is refl (λ z there. let lt = unit_below i.row.pops i.base z there in omega (arith, lt, within))

  -- what is got is read from no slot
  static_loaded : (pushes : (place : ℕ) (u : UnitSource) → slice_get i.row.pushes place ≡ Some u → IsThere (length i.row.pops) i.instruction.operand locals u) → i.row.stores ≡ []
      → IsStaticOp i (λ field. LoadStatic field i.base) op → FitsIn limit op
  static_loaded pushes stores s = by (is_reference_type s.names.field.signature.descriptor) s.is
    where
      by : (b : Bool) → MatchBool b (op ≡ LoadStatic (field_no s.names.number) i.base) (IsAssign i op) → FitsIn limit op
      by true is = other limit op (LoadStatic (field_no s.names.number) i.base) is refl (no_slot limit)
      by false a = assigned (record { pushes = pushes; stores = λ place u at. absurd (none-some u (sym (ap (λ (us : List UnitSource). slice_get us place) stores) ∙ at)) }) a

  static_stored : 0 < length i.row.pops → i.row.pushes ≡ [] → i.row.stores ≡ [] → IsStaticOp i (λ field. StoreStatic field i.base) op → FitsIn limit op
  static_stored some pushes stores s = by (is_reference_type s.names.field.signature.descriptor) s.is
    where
      by : (b : Bool) → MatchBool b (op ≡ StoreStatic (field_no s.names.number) i.base) (IsAssign i op) → FitsIn limit op
      by true is = other limit op (StoreStatic (field_no s.names.number) i.base) is refl (one_slot limit i.base (first_below some))
      by false a = assigned (record {
        pushes = λ place u at. absurd (none-some u (sym (ap (λ (us : List UnitSource). slice_get us place) pushes) ∙ at));
        stores = λ place u at. absurd (none-some u (sym (ap (λ (us : List UnitSource). slice_get us place) stores) ∙ at));
      }) a

  field_loaded : 0 < length i.row.pops → IsFieldOp i (λ field. Load i.base field i.base) op → FitsIn limit op
  field_loaded some f = by (is_reference_type f.names.field.signature.descriptor) f.is
    where
      by : (b : Bool) → op ≡ (if b then Load i.base (field_no f.names.number) i.base else Probe i.base) → FitsIn limit op
      by true is = other limit op (Load i.base (field_no f.names.number) i.base) is refl (one_slot limit i.base (first_below some))
      by false is = probed some is

  field_stored : 1 < length i.row.pops → IsFieldOp i (λ field. Store i.base field (i.base + 1)) op → FitsIn limit op
  field_stored some f = by (is_reference_type f.names.field.signature.descriptor) f.is
    where
      by : (b : Bool) → op ≡ (if b then Store i.base (field_no f.names.number) (i.base + 1) else Probe i.base) → FitsIn limit op
      by true is = other limit op (Store i.base (field_no f.names.number) (i.base + 1)) is refl (two_slots limit i.base (i.base + 1) (first_below (omega (arith, some))) (omega (arith, some, within)))
      by false is = probed (omega (arith, some)) is

  long_as : (kinds : List UnitKind) → i.row.pops ≡ kinds → length i.row.pops ≡ length kinds
  long_as kinds e = ap length e

  on_object : IsProbe i.row → 0 < length i.row.pops
  on_object probe = let long = long_as (reference ∷ probe.on.rest) probe.on.is in omega (arith, long)

  fits_by : (a : Action) → i.row.action ≡ a → ShapeOf a i.pool i.instruction.operand i.row → IsOp a i op → FitsIn limit op
  fits_by plain act shape is = assigned (moves_only act) is
  fits_by load_constant act shape is = record {
    reads = λ z there. no_slot limit z (subst (λ (o : Op). Contains (read_slots o) z) is.2 there);
    constants = λ s target e.
        let same : boot_site is.0 ≡ s = cc (is.2, e) in
        subst (λ (t : Site). t ≡ boot_site t.class) same refl;
    arrays = λ sites target e. absurd (cc (is.2, e));
  }
  fits_by load_element act shape is =
      let long = long_as _ shape.pops_are in
      other limit op (LoadElement i.base i.base) is refl (one_slot limit i.base (first_below (omega (arith, long))))
  fits_by store_element act shape is =
      let long = long_as _ shape.pops_are in
      other limit op (StoreElement i.base (i.base + 2)) is refl (two_slots limit i.base (i.base + 2) (first_below (omega (arith, long))) (omega (arith, long, within)))
  fits_by probe_element act shape is = probed (on_object shape) is
  fits_by probe_array act shape is = probed (on_object shape) is
  fits_by probe_object act shape is = probed (on_object shape) is
  fits_by get_static act shape is =
      static_loaded
      (λ place u at. made_there (length i.row.pops) i.instruction.operand locals (kinds_of shape.field.signature.descriptor) place u
      (sym (ap (λ (us : List UnitSource). slice_get us place) shape.units.pushes_are) ∙ at))
      shape.units.stores_are is
  fits_by put_static act shape is = static_stored (put_value act) shape.units.pushes_are shape.units.stores_are is
  fits_by get_field act shape is = let long = long_as _ shape.units.pops_are in field_loaded (omega (arith, long)) is
  fits_by put_field act shape is = field_stored (put_both act) is
  fits_by invoke_virtual act shape is = called _ is
  fits_by invoke_special act shape is = called _ is
  fits_by invoke_static act shape is = called _ is
  fits_by invoke_interface act shape is = called _ is
  fits_by make_object act shape is = other limit op (New (new_site i is.0.class) i.base) is.1 refl (no_slot limit)
  fits_by make_array act shape is = record {
    reads = λ z there. no_slot limit z (subst (λ (o : Op). Contains (read_slots o) z) is.2 there);
    constants = λ s target e. absurd (cc (is.2, e));
    arrays = λ sites target e s there class.
        let same : map (new_site i) is.0 ≡ sites = cc (is.2, e) in
        let (place, at) = place_of sites s there in
        let (name, stands, made) = map_at (new_site i) is.0 place s (ap (λ (ss : List Site). slice_get ss place) same ∙ at) in
        arrays_no_class i.pool i.instruction leads named is.0 is.1 name (contains_at is.0 place name stands) (subst (λ (t : Site). IsClassName t.class) (sym made) class);
  }
  fits_by throw_object act shape is = let long = long_as _ shape in other limit op (Throw i.base) is refl (one_slot limit i.base (first_below (omega (arith, long))))
  fits_by cast act shape is = let long = long_as _ shape.pops_are in other limit op (Cast is.0.class i.base) is.1 refl (one_slot limit i.base (first_below (omega (arith, long))))
  fits_by leave_method act shape is =
      other limit op (Return (value_slot i.base i.row.pops)) is refl (λ z there. let lt = value_below i.row.pops i.base z there in omega (arith, lt, within))
  fits_by refused act shape is = absurd is

  pub fits : ShapeOf i.row.action i.pool i.instruction.operand i.row → IsOp i.row.action i op → FitsIn limit op
  fits shape is = fits_by i.row.action refl shape is
