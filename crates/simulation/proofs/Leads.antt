-- What an instruction that goes on makes and leaves, its operation does.
use Rattle.std.proofs.Common.{◌≡◌, ◌≢◌, ◌⊎◌, inl, inr, ℕ, zero, suc, ◌+◌, ◌-◌, ◌<◌, ◌≤◌, Bool, true, false, cond, ◌||◌, eqb, List, [], ◌∷◌, ◌++◌, length, map, Option, Some, None, refl, sym, ap, ◌∙◌, subst, arith}
use Rattle.std.specs.Bool.{MatchBool}
use Rattle.std.specs.List.{Contains, AllZip, slice_get}
use Rattle.std.specs.Option.{option_map}
use Rattle.std.proofs.lemmas.List.{append-nil, get_or-append_right, get_or-append-add}
use Rattle.std.proofs.lemmas.Option.{none-some, same_Some}
use Rattle.std.proofs.lemmas.Slice.Zip.{AllZip-long}
use Rattle.jvm_model.specs.declared.pool.PoolEntry.{PoolEntry}
use Rattle.jvm_model.specs.declared.site.Site.{Site}
use Rattle.jvm_model.specs.declared.site.SiteKind.TheVariants as site_kinds
use Rattle.jvm_model.specs.Instructions.{kinds_of, kinds_by, made_for}
use Rattle.jvm_model.specs.LinkedPrograms.{IsProgram}
use Rattle.jvm_model.specs.Lookups.{MemberReference, Signature}
use Rattle.jvm_model.specs.Programs.{Field, Program}
use Rattle.jvm_model.specs.Resolution.{FindsAmong, FindsField, above, first, itself as in_class, later, nowhere}
use Rattle.jvm_model.specs.Table.{Row, UnitKind, any_kind, primitive, reference, UnitSource, popped, the_local, a_null, a_primitive, the_made, Action, plain, load_constant, load_element, store_element, probe_element, probe_array, probe_object, get_static, put_static, get_field, put_field, invoke_virtual, invoke_special, invoke_static, invoke_interface, make_object, make_array, throw_object, cast, leave_method, refused}
use Rattle.op_model.specs.declared.op.Op.{Op}
use Rattle.op_model.specs.declared.op.Op.TheVariants.{Load, Store, LoadElement, StoreElement, LoadStatic, StoreStatic, New, NewArray, Cast, Probe}
use Rattle.machine_bytecode.specs.Machine.{AtInstruction, HasKind, LoadsConstant, of_string as loads_string, of_class as loads_class, Makes, NamesArrays, NamesClass, NamesField, effect, nested, of_primitives, of_references, value_of}
use Rattle.machine_bytecode.specs.Objects.{Subject, IsConstant, MakesArrays, MakesObject, Passes, ReadsElement, ReadsField, Refers, WritesElement, WritesField}
use Rattle.machine_bytecode.specs.States.{Frame, Value, World, is_reference_kind, is_reference_type, null_value, primitive_value, reference_to, site_at, slot_at, with_static}
use Rattle.machine_nodes.specs.NodeSteps.{Leads}
use Rattle.machine_nodes.specs.Slots.{AreLeft}
use Rattle.lowering_spec.specs.Operations.{IsAssign, IsOp, LoadsConstantOf, field_no, new_site, of_class, of_string}
use Rattle.program_laws.proofs.Orders.{first_there, more_there, none_there, where_there}
use Rattle.simulation.proofs.Instructions.{without_targets}
use Rattle.simulation.proofs.Known.{told}
use Rattle.simulation.proofs.Left.{AllPrimitive, ArePopped, left_none, left_one, left_primitives}
use Rattle.lowering_laws.proofs.Named.{one_arrays, one_class, same_field}
use Rattle.simulation.proofs.PlainNodes.{plain_moved}
use Rattle.simulation.proofs.Rows.{HasUnits, IsAccess, IsArrays, IsProbe, ShapeOf, are_cleared, are_primitives, are_unmade}

-- ---- units of some kinds

-- units of primitives alone
pub clear_units : (kinds : List UnitKind) (units : List Value) → are_primitives kinds ≡ true → AllZip HasKind kinds units → AllPrimitive units
clear_units [] [] e zip i = refl
clear_units [] (v ∷ units) e zip i = absurd zip
clear_units (k ∷ kinds) [] e zip i = refl
clear_units (primitive ∷ kinds) (primitive_value ∷ units) e zip zero = refl
clear_units (primitive ∷ kinds) (null_value ∷ units) e zip zero = absurd zip.0
clear_units (primitive ∷ kinds) (reference_to place ∷ units) e zip zero = absurd zip.0
clear_units (primitive ∷ kinds) (v ∷ units) e zip (suc i) = clear_units kinds units e zip.1 i
clear_units (any_kind ∷ kinds) (v ∷ units) e zip i = absurd cc
clear_units (reference ∷ kinds) (v ∷ units) e zip i = absurd cc

-- those above the first one
clear_above : (k : UnitKind) (kinds : List UnitKind) (units : List Value) → are_primitives kinds ≡ true → AllZip HasKind (k ∷ kinds) units → (i : ℕ) → slot_at units (suc i) ≡ primitive_value
clear_above k kinds [] e zip i = refl
clear_above k kinds (v ∷ units) e zip i = clear_units kinds units e zip.1 i

no_operands : (kept units : List Value) → AllPrimitive units → ArePopped kept units []
no_operands kept units clear = record { above = λ z there. absurd (none_there z there); each = λ i free. clear i }

pub primitives_popped : (kept units : List Value) (kinds : List UnitKind) → are_primitives kinds ≡ true → AllZip HasKind kinds units → ArePopped kept units []
primitives_popped kept units kinds e zip = no_operands kept units (clear_units kinds units e zip)

-- a reference below primitives
pub reference_popped : (kept units : List Value) (k : UnitKind) (kinds : List UnitKind) → are_primitives kinds ≡ true → AllZip HasKind (k ∷ kinds) units → ArePopped kept units (length kept ∷ [])
reference_popped kept units k kinds e zip = record {
  above = λ z there. at_least z (where_there (length kept) z [] there);
  each = λ i free. by i free;
}
  where
    at_least : (z : ℕ) → (length kept ≡ z) ⊎ Contains [] z → length kept ≤ z
    at_least z (inl same) = omega (arith, same)
    at_least z (inr there) = absurd (none_there z there)

    by : (i : ℕ) → (Contains (length kept ∷ []) (length kept + i) → ⊥) → slot_at units i ≡ primitive_value
    by zero free = let same : length kept ≡ length kept + zero = omega arith in absurd (free (subst (Contains (length kept ∷ [])) same (first_there (length kept) [])))
    by (suc i) free = clear_above k kinds units e zip i

-- two references, with so many primitives between them
pub two_popped : (kept units : List Value) (between : ℕ) → ((i : ℕ) → i ≢ 0 → i ≢ between → slot_at units i ≡ primitive_value) → ArePopped kept units (length kept ∷ (length kept + between) ∷ [])
two_popped kept units between clear = record {
  above = λ z there. at_least z (where_there (length kept) z ((length kept + between) ∷ []) there);
  each = λ i free. clear i (λ e. free (at_first i e)) (λ e. free (at_second i e));
}
  where
    second : (z : ℕ) → (length kept + between ≡ z) ⊎ Contains [] z → length kept ≤ z
    second z (inl same) = omega (arith, same)
    second z (inr there) = absurd (none_there z there)

    at_least : (z : ℕ) → (length kept ≡ z) ⊎ Contains ((length kept + between) ∷ []) z → length kept ≤ z
    at_least z (inl same) = omega (arith, same)
    at_least z (inr there) = second z (where_there (length kept + between) z [] there)

    at_first : (i : ℕ) → i ≡ 0 → Contains (length kept ∷ (length kept + between) ∷ []) (length kept + i)
    at_first i e = let same : length kept ≡ length kept + i = omega (arith, e) in subst (Contains (length kept ∷ (length kept + between) ∷ [])) same (first_there (length kept) ((length kept + between) ∷ []))

    at_second : (i : ℕ) → i ≡ between → Contains (length kept ∷ (length kept + between) ∷ []) (length kept + i)
    at_second i e =
        let same : length kept + between ≡ length kept + i = omega (arith, e) in
        subst (Contains (length kept ∷ (length kept + between) ∷ [])) same (more_there (length kept) (length kept + between) ((length kept + between) ∷ []) (first_there (length kept + between) []))

pub top : (kept units : List Value) → slot_at (kept ++ units) (length kept) ≡ slot_at units 0
top kept units =
    let at : length kept - length kept ≡ 0 = omega arith in
    get_or-append_right kept units (length kept) (length kept) primitive_value refl (omega arith) ∙ ap (slot_at units) at

one_unit : (k : UnitKind) (units : List Value) → AllZip HasKind (k ∷ []) units → units ≡ slot_at units 0 ∷ []
one_unit k [] zip = absurd zip
one_unit k (v ∷ []) zip = refl
one_unit k (v ∷ w ∷ units) zip = absurd zip.1

-- ---- what is pushed

module _ (r : Row) (operand : ℕ) (made : Value) (kept units : List Value) where
  pub effect_made : r.pushes ≡ the_made ∷ [] → r.stores ≡ [] → effect r operand made kept units ≡ kept ++ made ∷ []
  effect_made pushes stores = rw (stores, pushes) refl

  pub effect_none : r.pushes ≡ [] → r.stores ≡ [] → effect r operand made kept units ≡ kept
  effect_none pushes stores = rw (stores, pushes) (append-nil kept)

  abbrev pushed : List Value
  pushed = map (value_of made (slot_at (kept ++ units) operand) units) r.pushes

  pub effect_pushed : r.stores ≡ [] → effect r operand made kept units ≡ kept ++ pushed
  effect_pushed stores = rw stores refl

pub clear_pushed : (made local : Value) (units : List Value) (us : List UnitSource) → are_cleared us ≡ true → AllPrimitive (map (value_of made local units) us)
clear_pushed made local units [] e i = refl
clear_pushed made local units (a_primitive ∷ us) e zero = refl
clear_pushed made local units (a_primitive ∷ us) e (suc i) = clear_pushed made local units us e i
clear_pushed made local units (popped n ∷ us) e i = absurd cc
clear_pushed made local units (the_local ∷ us) e i = absurd cc
clear_pushed made local units (a_null ∷ us) e i = absurd cc
clear_pushed made local units (the_made ∷ us) e i = absurd cc

-- ---- fields

-- the kinds of a type: one reference, or primitives alone
pub data KindsOf (text : List ℕ) : Type 0 where
  of_reference : is_reference_type text ≡ true → kinds_of text ≡ reference ∷ [] → KindsOf text
  of_primitives_alone : is_reference_type text ≡ false → are_primitives (kinds_of text) ≡ true → KindsOf text

data LetterKinds (kinds : List UnitKind) : Type 0 where
  one_reference : kinds ≡ reference ∷ [] → LetterKinds kinds
  all_primitive : is_reference_kind kinds ≡ false → are_primitives kinds ≡ true → LetterKinds kinds

letter_kinds : (a b c : Bool) → LetterKinds (cond a (primitive ∷ primitive ∷ []) (cond b (reference ∷ []) (cond c [] (primitive ∷ []))))
letter_kinds true b c = all_primitive refl refl
letter_kinds false true c = one_reference refl
letter_kinds false false true = all_primitive refl refl
letter_kinds false false false = all_primitive refl refl

kinds_by_letter : (kinds : List UnitKind) (text : List ℕ) → kinds_of text ≡ kinds → LetterKinds kinds → KindsOf text
kinds_by_letter kinds text e (one_reference is) = of_reference (ap is_reference_kind (e ∙ is)) (e ∙ is)
kinds_by_letter kinds text e (all_primitive is all) = of_primitives_alone (ap is_reference_kind e ∙ is) (ap are_primitives e ∙ all)

pub which_kinds : (text : List ℕ) → KindsOf text
which_kinds [] = of_primitives_alone refl refl
which_kinds (letter ∷ rest) = kinds_by_letter (kinds_by letter) (letter ∷ rest) refl (letter_kinds (eqb letter 74 || eqb letter 68) (eqb letter 76 || eqb letter 91) (eqb letter 86))

made_cleared : (kinds : List UnitKind) → are_primitives kinds ≡ true → are_cleared (map made_for kinds) ≡ true
made_cleared [] e = refl
made_cleared (primitive ∷ kinds) e = made_cleared kinds e
made_cleared (any_kind ∷ kinds) e = absurd cc
made_cleared (reference ∷ kinds) e = absurd cc

cleared_unmade : (us : List UnitSource) → are_cleared us ≡ true → are_unmade us ≡ true
cleared_unmade [] e = refl
cleared_unmade (a_primitive ∷ us) e = cleared_unmade us e
cleared_unmade (popped n ∷ us) e = absurd cc
cleared_unmade (the_local ∷ us) e = absurd cc
cleared_unmade (a_null ∷ us) e = absurd cc
cleared_unmade (the_made ∷ us) e = absurd cc

-- a field that is found has the name and the descriptor
record FieldSigned (p : Program) (s : Signature) (number : ℕ) : Type 0 where
  field : Field
  stands : slice_get p.fields number ≡ Some field
  is : field.signature ≡ s

mutual
  found_signed : (p : Program) (s : Signature) (class : List ℕ) (o : Option ℕ) (n : ℕ) → o ≡ Some n → FindsField p s class o → FieldSigned p s n
  found_signed p s class o n e (in_class _ i x) = subst (FieldSigned p s) (same_Some i n e) (record { field = x.field; stands = x.stands; is = x.is })
  found_signed p s class o n e (above _ _ c named none among) = among_signed p s _ o n e among

  among_signed : (p : Program) (s : Signature) (classes : List (List ℕ)) (o : Option ℕ) (n : ℕ) → o ≡ Some n → FindsAmong p s classes o → FieldSigned p s n
  among_signed p s classes o n e nowhere = absurd (none-some n e)
  among_signed p s classes o n e (first class others i x) = found_signed p s class (Some i) n e x
  among_signed p s classes o n e (later class others _ none x) = among_signed p s others o n e x

-- so the field that an instruction names has the type by which its row was made
field_type : (p : Program) (pool : List PoolEntry) (operand : ℕ) (wants_static : Bool) (n : NamesField p pool operand wants_static) (pops : List UnitKind → List UnitKind) (pushes : List UnitKind → List UnitSource) (r : Row)
    → (a : IsAccess pool operand pops pushes r) → a.field.signature.descriptor ≡ n.field.signature.descriptor
field_type p pool operand wants_static n pops pushes r a =
    let named : a.field ≡ n.named = same_Some a.field n.named (sym a.named ∙ n.is_named) in
    let found = found_signed p n.named.signature n.named.class (Some n.number) n.number refl n.found in
    let field : found.field ≡ n.field = same_Some found.field n.field (sym found.stands ∙ n.stands) in
    ap (λ (m : MemberReference). m.signature.descriptor) named ∙ ap (λ (s : Signature). s.descriptor) (sym found.is) ∙ ap (λ (f : Field). f.signature.descriptor) field

-- ---- each action

module _ (x : Subject) (program : IsProgram x.program) (f : Frame) (now : AtInstruction x.program f) (kept units : List Value) (made : Value) (before after : World) (op : Op)
    (kinds : AllZip HasKind now.row.pops units) (stores_fit : 0 < length now.row.stores → now.instruction.operand + length now.row.stores ≤ length kept) where
  abbrev pool : List PoolEntry
  pool = now.here.code.file.pool

  abbrev operand : ℕ
  operand = now.instruction.operand

  abbrev Here : Op → Type 0
  Here o = Leads o x before (kept ++ units) (effect now.row operand made kept units) after

  assigns : are_unmade now.row.pushes ≡ true → are_unmade now.row.stores ≡ true → IsAssign (told x.program f now (length kept)) op → after ≡ before → Here op
  assigns pushes stores is same =
      subst Here (sym is.is) (plain_moved now.row operand made kept units is.moves (AllZip-long HasKind now.row.pops units kinds) stores_fit pushes stores is.each, same)

  kinds_are : (pops : List UnitKind) → now.row.pops ≡ pops → AllZip HasKind pops units
  kinds_are pops e = subst (λ (ks : List UnitKind). AllZip HasKind ks units) e kinds

  -- what is made is pushed, in place of what was popped
  one_left : (operands : List ℕ) → now.row.pushes ≡ the_made ∷ [] → now.row.stores ≡ [] → ArePopped kept units operands
      → AreLeft operands (Some (length kept)) made (kept ++ units) (effect now.row operand made kept units)
  one_left operands pushes stores are =
      subst (λ (new : List Value). AreLeft operands (Some (length kept)) made (kept ++ units) new) (sym (effect_made now.row operand made kept units pushes stores)) (left_one kept units operands made are)

  none_left : (operands : List ℕ) → now.row.pushes ≡ [] → now.row.stores ≡ [] → ArePopped kept units operands
      → AreLeft operands None primitive_value (kept ++ units) (effect now.row operand made kept units)
  none_left operands pushes stores are =
      subst (λ (new : List Value). AreLeft operands None primitive_value (kept ++ units) new) (sym (effect_none now.row operand made kept units pushes stores)) (left_none kept units operands primitive_value are)

  cleared_left : (operands : List ℕ) → are_cleared now.row.pushes ≡ true → now.row.stores ≡ [] → ArePopped kept units operands
      → AreLeft operands None primitive_value (kept ++ units) (effect now.row operand made kept units)
  cleared_left operands pushes stores are =
      subst (λ (new : List Value). AreLeft operands None primitive_value (kept ++ units) new) (sym (effect_pushed now.row operand made kept units stores))
      (left_primitives kept units _ operands primitive_value are (clear_pushed made (slot_at (kept ++ units) operand) units now.row.pushes pushes))

  constant_of : (class : List ℕ) → LoadsConstantOf (told x.program f now (length kept)) class → LoadsConstant pool operand made → IsConstant class made
  constant_of class (of_string text e is) (loads_string text2 e2 const) = subst (λ (c : List ℕ). IsConstant c made) (sym is) const
  constant_of class (of_string text e is) (loads_class name e2 const) = absurd (cc (e, e2))
  constant_of class (of_class name e is) (loads_string text e2 const) = absurd (cc (e, e2))
  constant_of class (of_class name e is) (loads_class name2 e2 const) = subst (λ (c : List ℕ). IsConstant c made) (sym is) const

  probes : IsProbe now.row → op ≡ Probe (length kept) → Refers before (slot_at units 0) → after ≡ before → Here op
  probes shape is refers same =
      let zip = kinds_are (reference ∷ shape.on.rest) shape.on.is in
      subst Here (sym is) (
        (subst (λ (v : Value). Refers before v) (sym (top kept units)) refers, same),
        cleared_left (length kept ∷ []) shape.pushes_cleared shape.stores_are (reference_popped kept units reference shape.on.rest shape.on.primitives zip),
      )

  load_it : HasUnits now.row (reference ∷ primitive ∷ []) (the_made ∷ []) → op ≡ LoadElement (length kept) (length kept) → ReadsElement before (slot_at units 0) made → after ≡ before → Here op
  load_it shape is reads same =
      let zip = kinds_are (reference ∷ primitive ∷ []) shape.pops_are in
      subst Here (sym is) (record {
        value = made;
        is_read = subst (λ (v : Value). ReadsElement before v made) (sym (top kept units)) reads;
        are_left = one_left (length kept ∷ []) shape.pushes_are shape.stores_are (reference_popped kept units reference (primitive ∷ []) refl zip);
        same = same;
      })

  store_it : HasUnits now.row (reference ∷ primitive ∷ reference ∷ []) [] → op ≡ StoreElement (length kept) (length kept + 2) → WritesElement x.program before (slot_at units 0) (slot_at units 2) after → Here op
  store_it shape is writes =
      let zip = kinds_are (reference ∷ primitive ∷ reference ∷ []) shape.pops_are in
      let at_array = subst (λ (v : Value). WritesElement x.program before v (slot_at units 2) after) (sym (top kept units)) writes in
      let at_both = subst (λ (v : Value). WritesElement x.program before (slot_at (kept ++ units) (length kept)) v after) (sym (get_or-append-add kept units 2 primitive_value)) at_array in
      subst Here (sym is) (at_both, none_left (length kept ∷ (length kept + 2) ∷ []) shape.pushes_are shape.stores_are (two_popped kept units 2 (clear units zip)))
    where
      clear : (vs : List Value) → AllZip HasKind (reference ∷ primitive ∷ reference ∷ []) vs → (i : ℕ) → i ≢ 0 → i ≢ 2 → slot_at vs i ≡ primitive_value
      clear [] zip i no_first no_second = refl
      clear (a ∷ []) zip i no_first no_second = absurd zip.1
      clear (a ∷ b ∷ []) zip i no_first no_second = absurd zip.1.1
      clear (a ∷ b ∷ c ∷ []) zip zero no_first no_second = absurd (no_first refl)
      clear (a ∷ primitive_value ∷ c ∷ []) zip (suc zero) no_first no_second = refl
      clear (a ∷ null_value ∷ c ∷ []) zip (suc zero) no_first no_second = absurd zip.1.0
      clear (a ∷ reference_to place ∷ c ∷ []) zip (suc zero) no_first no_second = absurd zip.1.0
      clear (a ∷ b ∷ c ∷ []) zip (suc (suc zero)) no_first no_second = absurd (no_second refl)
      clear (a ∷ b ∷ c ∷ []) zip (suc (suc (suc i))) no_first no_second = refl
      clear (a ∷ b ∷ c ∷ d ∷ vs) zip i no_first no_second = absurd zip.1.1.1

  -- ---- fields

  abbrev StaticMade : Bool → ℕ → Type 0
  StaticMade b number = made ≡ cond b (before.statics number) primitive_value

  get_static_by : (n : NamesField x.program pool operand true) → (a : IsAccess pool operand (λ value. []) (map made_for) now.row) → KindsOf n.field.signature.descriptor
      → MatchBool (is_reference_type n.field.signature.descriptor) (op ≡ LoadStatic (field_no n.number) (length kept)) (IsAssign (told x.program f now (length kept)) op)
      → StaticMade (is_reference_type n.field.signature.descriptor) n.number → after ≡ before → Here op
  get_static_by n a kind is made_is same = by kind
    where
      ks : List UnitKind
      ks = kinds_of n.field.signature.descriptor

      pushes : now.row.pushes ≡ map made_for (kinds_of n.field.signature.descriptor)
      pushes = a.units.pushes_are ∙ ap (λ (d : List ℕ). map made_for (kinds_of d)) (field_type x.program pool operand true n _ _ now.row a)

      by : KindsOf n.field.signature.descriptor → Here op
      by (of_reference e one) =
          let is_load : op ≡ LoadStatic (field_no n.number) (length kept) = subst (λ (b : Bool). MatchBool b (op ≡ LoadStatic (field_no n.number) (length kept)) (IsAssign (told x.program f now (length kept)) op)) e is in
          let value : made ≡ before.statics n.number = subst (λ (b : Bool). StaticMade b n.number) e made_is in
          subst Here (sym is_load) (record {
            value = made;
            is_read = value;
            are_left = one_left [] (pushes ∙ ap (map made_for) one) a.units.stores_are (primitives_popped kept units [] refl (kinds_are [] a.units.pops_are));
            same = same;
          })
      by (of_primitives_alone e all) =
          let is_assign = subst (λ (b : Bool). MatchBool b (op ≡ LoadStatic (field_no n.number) (length kept)) (IsAssign (told x.program f now (length kept)) op)) e is in
          assigns (ap are_unmade pushes ∙ cleared_unmade (map made_for (kinds_of n.field.signature.descriptor)) (made_cleared (kinds_of n.field.signature.descriptor) all)) (ap are_unmade a.units.stores_are) is_assign same

  put_static_by : (n : NamesField x.program pool operand true) → (a : IsAccess pool operand (λ value. value) (λ value. []) now.row) → KindsOf n.field.signature.descriptor
      → MatchBool (is_reference_type n.field.signature.descriptor) (op ≡ StoreStatic (field_no n.number) (length kept)) (IsAssign (told x.program f now (length kept)) op)
      → after ≡ cond (is_reference_type n.field.signature.descriptor) (with_static before n.number (slot_at units 0)) before → Here op
  put_static_by n a kind is after_is = by kind
    where
      pops : now.row.pops ≡ kinds_of n.field.signature.descriptor
      pops = a.units.pops_are ∙ ap kinds_of (field_type x.program pool operand true n _ _ now.row a)

      by : KindsOf n.field.signature.descriptor → Here op
      by (of_reference e one) =
          let is_store : op ≡ StoreStatic (field_no n.number) (length kept) = subst (λ (b : Bool). MatchBool b (op ≡ StoreStatic (field_no n.number) (length kept)) (IsAssign (told x.program f now (length kept)) op)) e is in
          let written : after ≡ with_static before n.number (slot_at units 0) = subst (λ (b : Bool). after ≡ cond b (with_static before n.number (slot_at units 0)) before) e after_is in
          subst Here (sym is_store) (
            written ∙ ap (with_static before n.number) (sym (top kept units)),
            none_left (length kept ∷ []) a.units.pushes_are a.units.stores_are (reference_popped kept units reference [] refl (kinds_are (reference ∷ []) (pops ∙ one))),
          )
      by (of_primitives_alone e all) =
          let is_assign = subst (λ (b : Bool). MatchBool b (op ≡ StoreStatic (field_no n.number) (length kept)) (IsAssign (told x.program f now (length kept)) op)) e is in
          let same : after ≡ before = subst (λ (b : Bool). after ≡ cond b (with_static before n.number (slot_at units 0)) before) e after_is in
          assigns (ap are_unmade a.units.pushes_are) (ap are_unmade a.units.stores_are) is_assign same

  get_field_by : (n : NamesField x.program pool operand false) → (a : IsAccess pool operand (λ value. reference ∷ []) (map made_for) now.row) → KindsOf n.field.signature.descriptor
      → op ≡ cond (is_reference_type n.field.signature.descriptor) (Load (length kept) (field_no n.number) (length kept)) (Probe (length kept))
      → MatchBool (is_reference_type n.field.signature.descriptor) (ReadsField before (slot_at units 0) n.number made) (Refers before (slot_at units 0) × (made ≡ primitive_value)) → after ≡ before → Here op
  get_field_by n a kind is reads same = by kind
    where
      pushes : now.row.pushes ≡ map made_for (kinds_of n.field.signature.descriptor)
      pushes = a.units.pushes_are ∙ ap (λ (d : List ℕ). map made_for (kinds_of d)) (field_type x.program pool operand false n _ _ now.row a)

      zip : AllZip HasKind (reference ∷ []) units
      zip = kinds_are (reference ∷ []) a.units.pops_are

      by : KindsOf n.field.signature.descriptor → Here op
      by (of_reference e one) =
          let is_load : op ≡ Load (length kept) (field_no n.number) (length kept) = is ∙ ap (λ (b : Bool). cond b (Load (length kept) (field_no n.number) (length kept)) (Probe (length kept))) e in
          let read : ReadsField before (slot_at units 0) n.number made = subst (λ (b : Bool). MatchBool b (ReadsField before (slot_at units 0) n.number made) (Refers before (slot_at units 0) × (made ≡ primitive_value))) e reads in
          subst Here (sym is_load) (record {
            value = made;
            is_read = subst (λ (v : Value). ReadsField before v n.number made) (sym (top kept units)) read;
            are_left = one_left (length kept ∷ []) (pushes ∙ ap (map made_for) one) a.units.stores_are (reference_popped kept units reference [] refl zip);
            same = same;
          })
      by (of_primitives_alone e all) =
          let is_probe : op ≡ Probe (length kept) = is ∙ ap (λ (b : Bool). cond b (Load (length kept) (field_no n.number) (length kept)) (Probe (length kept))) e in
          let there = subst (λ (b : Bool). MatchBool b (ReadsField before (slot_at units 0) n.number made) (Refers before (slot_at units 0) × (made ≡ primitive_value))) e reads in
          subst Here (sym is_probe) (
            (subst (λ (v : Value). Refers before v) (sym (top kept units)) there.0, same),
            cleared_left (length kept ∷ []) (ap are_cleared pushes ∙ made_cleared (kinds_of n.field.signature.descriptor) all) a.units.stores_are (reference_popped kept units reference [] refl zip),
          )

  put_field_by : (n : NamesField x.program pool operand false) → (a : IsAccess pool operand (λ value. reference ∷ value) (λ value. []) now.row) → KindsOf n.field.signature.descriptor
      → op ≡ cond (is_reference_type n.field.signature.descriptor) (Store (length kept) (field_no n.number) (length kept + 1)) (Probe (length kept))
      → MatchBool (is_reference_type n.field.signature.descriptor) (WritesField before (slot_at units 0) n.number (slot_at units 1) after) (Refers before (slot_at units 0) × (after ≡ before)) → Here op
  put_field_by n a kind is writes = by kind
    where
      pops : now.row.pops ≡ reference ∷ kinds_of n.field.signature.descriptor
      pops = a.units.pops_are ∙ ap (λ (d : List ℕ). reference ∷ kinds_of d) (field_type x.program pool operand false n _ _ now.row a)

      clear : (vs : List Value) → AllZip HasKind (reference ∷ reference ∷ []) vs → (i : ℕ) → i ≢ 0 → i ≢ 1 → slot_at vs i ≡ primitive_value
      clear [] z i no_first no_second = refl
      clear (v ∷ []) z i no_first no_second = absurd z.1
      clear (v ∷ w ∷ []) z zero no_first no_second = absurd (no_first refl)
      clear (v ∷ w ∷ []) z (suc zero) no_first no_second = absurd (no_second refl)
      clear (v ∷ w ∷ []) z (suc (suc i)) no_first no_second = refl
      clear (v ∷ w ∷ u ∷ vs) z i no_first no_second = absurd z.1.1

      by : KindsOf n.field.signature.descriptor → Here op
      by (of_reference e one) =
          let is_store : op ≡ Store (length kept) (field_no n.number) (length kept + 1) = is ∙ ap (λ (b : Bool). cond b (Store (length kept) (field_no n.number) (length kept + 1)) (Probe (length kept))) e in
          let write : WritesField before (slot_at units 0) n.number (slot_at units 1) after = subst (λ (b : Bool). MatchBool b (WritesField before (slot_at units 0) n.number (slot_at units 1) after) (Refers before (slot_at units 0) × (after ≡ before))) e writes in
          let at_object = subst (λ (v : Value). WritesField before v n.number (slot_at units 1) after) (sym (top kept units)) write in
          let at_both = subst (λ (v : Value). WritesField before (slot_at (kept ++ units) (length kept)) n.number v after) (sym (get_or-append-add kept units 1 primitive_value)) at_object in
          subst Here (sym is_store) (
            at_both,
            none_left (length kept ∷ (length kept + 1) ∷ []) a.units.pushes_are a.units.stores_are (two_popped kept units 1 (clear units (kinds_are (reference ∷ reference ∷ []) (pops ∙ ap (λ (ks : List UnitKind). reference ∷ ks) one)))),
          )
      by (of_primitives_alone e all) =
          let is_probe : op ≡ Probe (length kept) = is ∙ ap (λ (b : Bool). cond b (Store (length kept) (field_no n.number) (length kept + 1)) (Probe (length kept))) e in
          let there = subst (λ (b : Bool). MatchBool b (WritesField before (slot_at units 0) n.number (slot_at units 1) after) (Refers before (slot_at units 0) × (after ≡ before))) e writes in
          subst Here (sym is_probe) (
            (subst (λ (v : Value). Refers before v) (sym (top kept units)) there.0, there.1),
            none_left (length kept ∷ []) a.units.pushes_are a.units.stores_are (reference_popped kept units reference (kinds_of n.field.signature.descriptor) all (kinds_are (reference ∷ kinds_of n.field.signature.descriptor) pops)),
          )

  -- ---- new objects

  site_is : (class : List ℕ) → site_at site_kinds.New f class ≡ new_site (told x.program f now (length kept)) class
  site_is class = ap (λ (m : Option ℕ). record { kind = site_kinds.New; method = option_map (λ (n : ℕ). record { 0 = n }) m; offset = f.offset; class = class }) now.here.of_frame

  sites_are : (classes : List (List ℕ)) → map (site_at site_kinds.New f) classes ≡ map (new_site (told x.program f now (length kept))) classes
  sites_are classes =
      ap (λ (m : Option ℕ). map (λ (class : List ℕ). record { kind = site_kinds.New; method = option_map (λ (n : ℕ). record { 0 = n }) m; offset = f.offset; class = class }) classes) now.here.of_frame

  make_it : (n m : NamesClass pool operand) → HasUnits now.row [] (the_made ∷ []) → op ≡ New (new_site (told x.program f now (length kept)) m.class) (length kept)
      → MakesObject x (site_at site_kinds.New f n.class) before made after → Here op
  make_it n m shape is makes =
      let site : site_at site_kinds.New f n.class ≡ new_site (told x.program f now (length kept)) m.class = ap (site_at site_kinds.New f) (one_class pool operand n m) ∙ site_is m.class in
      subst Here (sym is) (record {
        made = made;
        is_made = subst (λ (s : Site). MakesObject x s before made after) site makes;
        are_left = one_left [] shape.pushes_are shape.stores_are (primitives_popped kept units [] refl (kinds_are [] shape.pops_are));
      })

  arrays_without : (arrays : List (List ℕ)) → NamesArrays pool now.instruction arrays → NamesArrays pool (without_targets now.instruction) arrays
  arrays_without arrays (of_primitives o is) = of_primitives o is
  arrays_without arrays (of_references o n is) = of_references o n is
  arrays_without arrays (nested o n is) = nested o n is

  make_arrays : (arrays others : List (List ℕ)) → NamesArrays pool now.instruction arrays → NamesArrays pool (without_targets now.instruction) others → IsArrays now.row
      → op ≡ NewArray (map (new_site (told x.program f now (length kept))) others) (length kept) → MakesArrays x (map (site_at site_kinds.New f) arrays) before made after → Here op
  make_arrays arrays others a b shape is makes =
      let same = one_arrays pool (without_targets now.instruction) arrays others (arrays_without arrays a) b in
      let sites : map (site_at site_kinds.New f) arrays ≡ map (new_site (told x.program f now (length kept))) others = ap (map (site_at site_kinds.New f)) same ∙ sites_are others in
      subst Here (sym is) (record {
        made = made;
        is_made = subst (λ (ss : List Site). MakesArrays x ss before made after) sites makes;
        are_left = one_left [] shape.pushes_are shape.stores_are (primitives_popped kept units now.row.pops shape.primitives kinds);
      })

  -- ---- casts

  cast_it : (n m : NamesClass pool operand) → HasUnits now.row (reference ∷ []) (popped 0 ∷ []) → op ≡ Cast m.class (length kept) → Passes x.program n.class before (slot_at units 0) → after ≡ before → Here op
  cast_it n m shape is passes same =
      let one = one_unit reference units (kinds_are (reference ∷ []) shape.pops_are) in
      let left : effect now.row operand made kept units ≡ kept ++ units = effect_pushed now.row operand made kept units shape.stores_are
      ∙ ap (λ (us : List UnitSource). kept ++ map (value_of made (slot_at (kept ++ units) operand) units) us) shape.pushes_are ∙ ap (λ (vs : List Value). kept ++ vs) (sym one) in
      let there = subst (λ (v : Value). Passes x.program m.class before v) (sym (top kept units)) (subst (λ (c : List ℕ). Passes x.program c before (slot_at units 0)) (one_class pool operand n m) passes) in
      subst Here (sym is) (there, (λ z. ap (λ (vs : List Value). slot_at vs z) left), same)

  -- ---- by the action

  pub leads_by : (a : Action) → ShapeOf a pool operand now.row → IsOp a (told x.program f now (length kept)) op → Makes a x f pool now.instruction units before made after → Here op
  leads_by plain shape is makes = assigns shape.pushes_unmade shape.stores_unmade is makes.1
  leads_by load_constant shape is makes =
      subst Here (sym is.2) (record {
        value = made;
        is_read = constant_of is.0 is.1 makes.0;
        are_left = one_left [] shape.pushes_are shape.stores_are (primitives_popped kept units [] refl (kinds_are [] shape.pops_are));
        same = makes.1;
      })
  leads_by load_element shape is makes = load_it shape is makes.0 makes.1
  leads_by store_element shape is makes = store_it shape is makes.0
  leads_by probe_element shape is makes = probes shape is makes.0.array.to makes.1.1
  leads_by probe_array shape is makes = probes shape is makes.0.to makes.1.1
  leads_by probe_object shape is makes = probes shape is makes.0 makes.1.1
  leads_by get_static shape is makes =
      let same = same_field x.program pool operand true program is.names makes.0 in
      let of_field = subst (λ (g : Field). MatchBool (is_reference_type g.signature.descriptor) (op ≡ LoadStatic (field_no is.names.number) (length kept)) (IsAssign (told x.program f now (length kept)) op)) same.field is.is in
      let of_number = subst (λ (k : ℕ). MatchBool (is_reference_type makes.0.field.signature.descriptor) (op ≡ LoadStatic (field_no k) (length kept)) (IsAssign (told x.program f now (length kept)) op)) same.number of_field in
      get_static_by makes.0 shape (which_kinds makes.0.field.signature.descriptor) of_number makes.1.0 makes.1.1
  leads_by put_static shape is makes =
      let same = same_field x.program pool operand true program is.names makes.0 in
      let of_field = subst (λ (g : Field). MatchBool (is_reference_type g.signature.descriptor) (op ≡ StoreStatic (field_no is.names.number) (length kept)) (IsAssign (told x.program f now (length kept)) op)) same.field is.is in
      let of_number = subst (λ (k : ℕ). MatchBool (is_reference_type makes.0.field.signature.descriptor) (op ≡ StoreStatic (field_no k) (length kept)) (IsAssign (told x.program f now (length kept)) op)) same.number of_field in
      put_static_by makes.0 shape (which_kinds makes.0.field.signature.descriptor) of_number makes.1
  leads_by get_field shape is makes =
      let same = same_field x.program pool operand false program is.names makes.0 in
      let of_field = is.is ∙ ap (λ (g : Field). cond (is_reference_type g.signature.descriptor) (Load (length kept) (field_no is.names.number) (length kept)) (Probe (length kept))) same.field in
      let of_number = of_field ∙ ap (λ (k : ℕ). cond (is_reference_type makes.0.field.signature.descriptor) (Load (length kept) (field_no k) (length kept)) (Probe (length kept))) same.number in
      get_field_by makes.0 shape (which_kinds makes.0.field.signature.descriptor) of_number makes.1.0 makes.1.1
  leads_by put_field shape is makes =
      let same = same_field x.program pool operand false program is.names makes.0 in
      let of_field = is.is ∙ ap (λ (g : Field). cond (is_reference_type g.signature.descriptor) (Store (length kept) (field_no is.names.number) (length kept + 1)) (Probe (length kept))) same.field in
      let of_number = of_field ∙ ap (λ (k : ℕ). cond (is_reference_type makes.0.field.signature.descriptor) (Store (length kept) (field_no k) (length kept + 1)) (Probe (length kept))) same.number in
      put_field_by makes.0 shape (which_kinds makes.0.field.signature.descriptor) of_number makes.1
  leads_by make_object shape is makes = make_it makes.0 is.0 shape is.1 makes.1
  leads_by make_array shape is makes = make_arrays makes.0 is.0 makes.1 is.1 shape is.2 makes.2
  leads_by cast shape is makes = cast_it makes.0 is.0 shape is.1 makes.1 makes.2.1
  leads_by invoke_virtual shape is makes = absurd makes
  leads_by invoke_special shape is makes = absurd makes
  leads_by invoke_static shape is makes = absurd makes
  leads_by invoke_interface shape is makes = absurd makes
  leads_by throw_object shape is makes = absurd makes
  leads_by leave_method shape is makes = absurd makes
  leads_by refused shape is makes = absurd makes
