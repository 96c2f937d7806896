-- The units of a method descriptor are those of the value that it spells.
use Rattle.std.proofs.Common.{◌≡◌, ℕ, zero, suc, ◌+◌, ◌<◌, Bool, true, false, cond, List, [], ◌∷◌, ◌++◌, length, map, take, get_or, Option, Some, None, IfSome, IfNone, refl, sym, ap, ◌∙◌, arith}
use Rattle.std.specs.List.{AllZip, flat_map}
use Rattle.std.proofs.lemmas.List.{take_more, length-take, length-map, append-nil, map-append}
use Rattle.std.proofs.lemmas.Grind.{flat_map-append}
use Rattle.jvm_model.specs.declared.descriptor.Descriptor.{Descriptor}
use Rattle.jvm_model.specs.declared.descriptor.Descriptor.TheVariants.{Field, Method}
use Rattle.jvm_model.specs.declared.descriptor.Kind.{Kind as TypeKind}
use Rattle.jvm_model.specs.declared.descriptor.Kind.TheVariants.{Prim, Class, Array}
use Rattle.jvm_model.specs.declared.opcode.UnitKind.{UnitKind as CodeUnitKind}
use Rattle.jvm_model.specs.Descriptors.{is_base_letter, IsFieldDescriptor, IsMethodDescriptor}
use Rattle.jvm_model.specs.DescriptorValues.{is_wide, IsKind, IsOutcome, IsDescriptorOf}
use Rattle.jvm_model.specs.Instructions.{kinds_of, kinds_by, HasDescriptorUnits}
use Rattle.jvm_model.specs.RowViews.{kind_view}
use Rattle.jvm_model.specs.Table.{UnitKind, any_kind, primitive, reference}
use Rattle.jvm_model.proofs.FieldKinds.{field_of_kind, no_field}
use Rattle.jvm_model.proofs.MethodKinds.{one_value}
use Rattle.flow_graph.proofs.DescriptorUnits.{by_letter}
use Rattle.flow_graph.proofs.SpelledKinds.{has_kinds}
use Rattle.machine_bytecode.specs.States.{is_reference_kind}
use Rattle.lowering_spec.specs.Operations.{unit_slots, value_slot}
use Rattle.lowering_operations.specs.UnitLists.{unit_kinds, parameter_units, is_reference_outcome, gives_reference}

-- ---- kinds

abbrev viewed : TypeKind → List UnitKind
viewed k = map kind_view (unit_kinds k)

abbrev IsViewed : ℕ → Type 0
IsViewed letter = (wide : Bool) → wide ≡ is_wide (letter ∷ []) → kinds_by letter ≡ viewed (Prim wide)

by_width : (wide other : Bool) → wide ≡ other → viewed (Prim other) ≡ viewed (Prim wide)
by_width wide other is = ap (λ (w : Bool). viewed (Prim w)) (sym is)

base_viewed : (letter : ℕ) → is_base_letter letter ≡ true → IsViewed letter
base_viewed letter base =
    by_letter IsViewed letter _ _ _ _ _ _ _ _ (λ w is. by_width w false is) (λ w is. by_width w false is) (λ w is. by_width w true is) (λ w is. by_width w false is)
    (λ w is. by_width w false is) (λ w is. by_width w true is) (λ w is. by_width w false is) (λ w is. by_width w false is) refl refl refl refl refl refl refl refl base

kind_viewed : (text : List ℕ) (k : TypeKind) → IsKind text k → kinds_of text ≡ viewed k
kind_viewed text (Prim wide) is = ap kinds_of is.0.2 ∙ base_viewed is.0.0 is.0.1 wide (is.1 ∙ ap is_wide is.0.2)
kind_viewed text (Class name) is = ap kinds_of is.1
kind_viewed text (Array zero element) is = absurd (omega (arith, is.0))
kind_viewed text (Array (suc n) element) is = ap kinds_of is.3

kinds_viewed : (ps : List (List ℕ)) (kinds : List TypeKind) → AllZip IsKind ps kinds → flat_map kinds_of ps ≡ map kind_view (flat_map unit_kinds kinds)
kinds_viewed [] [] each = refl
kinds_viewed [] (k ∷ kinds) each = absurd each
kinds_viewed (p ∷ ps) [] each = absurd each
kinds_viewed (p ∷ ps) (k ∷ kinds) each =
    ap (λ (us : List UnitKind). us ++ flat_map kinds_of ps) (kind_viewed p k each.0)
    ∙ ap (λ (us : List UnitKind). viewed k ++ us) (kinds_viewed ps kinds each.1)
    ∙ sym (map-append kind_view (unit_kinds k) (flat_map unit_kinds kinds))

kind_refers : (k : TypeKind) → is_reference_outcome (Some k) ≡ is_reference_kind (viewed k)
kind_refers (Prim true) = refl
kind_refers (Prim false) = refl
kind_refers (Class name) = refl
kind_refers (Array dimensions element) = refl

outcome_refers : (text : List ℕ) (o : Option TypeKind) → IsOutcome text o → is_reference_outcome o ≡ is_reference_kind (kinds_of text)
outcome_refers text None is = sym (ap (λ (t : List ℕ). is_reference_kind (kinds_of t)) is)
outcome_refers text (Some k) is = kind_refers k ∙ sym (ap is_reference_kind (kind_viewed text k is))

-- ---- the units of a descriptor

pub units_are : (text : List ℕ) (o : Option Descriptor) (ps rs : List UnitKind) → IfSome o (IsDescriptorOf text) → IfNone o ((IsFieldDescriptor text → ⊥) × (IsMethodDescriptor text → ⊥)) → HasDescriptorUnits text ps rs
    → (map kind_view (parameter_units o) ≡ ps) × (gives_reference o ≡ is_reference_kind rs)
units_are text None ps rs found none u = absurd (none.1 u.is)
units_are text (Some (Field kind)) ps rs found none u = absurd (no_field 40 text (flat_map (λ p. p) u.is.parameters ++ 41 ∷ u.is.outcome) refl u.is.spelled (field_of_kind text kind found))
units_are text (Some (Method kinds outcome)) ps rs found none u =
    let k = has_kinds text u.is in
    let same = one_value text (Method k.kinds k.outcome) (Method kinds outcome) k.is found in
    let same_kinds : k.kinds ≡ kinds = cc same in
    let same_outcome : k.outcome ≡ outcome = cc same in (
      sym (u.parameters_are ∙ kinds_viewed u.is.parameters k.kinds k.each ∙ ap (λ (ks : List TypeKind). map kind_view (flat_map unit_kinds ks)) same_kinds),
      sym (ap is_reference_outcome same_outcome) ∙ outcome_refers u.is.outcome k.outcome k.outcome_is ∙ sym (ap is_reference_kind u.results_are),
    )

-- one more kind
pub kinds_more : (kinds : List TypeKind) (i : ℕ) (k : TypeKind) → i < length kinds → k ≡ get_or kinds i k → flat_map unit_kinds (take (i + 1) kinds) ≡ flat_map unit_kinds (take i kinds) ++ unit_kinds k
kinds_more kinds i k lt is =
    ap (flat_map unit_kinds) (take_more kinds i k lt)
    ∙ flat_map-append unit_kinds (take i kinds) (get_or kinds i k ∷ [])
    ∙ ap (λ (x : TypeKind). flat_map unit_kinds (take i kinds) ++ flat_map unit_kinds (x ∷ [])) (sym is)
    ∙ ap (λ (us : List CodeUnitKind). flat_map unit_kinds (take i kinds) ++ us) (append-nil (unit_kinds k))

-- ---- slots

slots_append : (z : ℕ) (xs ys : List UnitKind) → unit_slots z (xs ++ ys) ≡ unit_slots z xs ++ unit_slots (z + length xs) ys
slots_append z [] ys = let e : z + 0 ≡ z = omega arith in ap (λ n. unit_slots n ys) (sym e)
slots_append z (any_kind ∷ xs) ys = let e : z + 1 + length xs ≡ z + suc (length xs) = omega arith in ap (λ os. None ∷ os) (slots_append (z + 1) xs ys ∙ ap (λ n. unit_slots (z + 1) xs ++ unit_slots n ys) e)
slots_append z (primitive ∷ xs) ys = let e : z + 1 + length xs ≡ z + suc (length xs) = omega arith in ap (λ os. None ∷ os) (slots_append (z + 1) xs ys ∙ ap (λ n. unit_slots (z + 1) xs ++ unit_slots n ys) e)
slots_append z (reference ∷ xs) ys = let e : z + 1 + length xs ≡ z + suc (length xs) = omega arith in ap (λ os. Some z ∷ os) (slots_append (z + 1) xs ys ∙ ap (λ n. unit_slots (z + 1) xs ++ unit_slots n ys) e)

-- one more unit
pub slots_more : (z : ℕ) (units : List CodeUnitKind) (i : ℕ) (d : CodeUnitKind) (n : ℕ) (o : Option ℕ) → i < length units → n ≡ z + i → unit_slots n (kind_view (get_or units i d) ∷ []) ≡ o ∷ []
    → unit_slots z (map kind_view (take (i + 1) units)) ≡ unit_slots z (map kind_view (take i units)) ++ o ∷ []
slots_more z units i d n o lt is one =
    let before = map kind_view (take i units) in
    let unit = kind_view (get_or units i d) in
    let e : z + length before ≡ n = omega (arith, length-map (take i units) kind_view, length-take i units) in
    ap (λ us. unit_slots z (map kind_view us)) (take_more units i d lt)
    ∙ ap (unit_slots z) (map-append kind_view (take i units) (get_or units i d ∷ []))
    ∙ slots_append z before (unit ∷ [])
    ∙ ap (λ k. unit_slots z before ++ unit_slots k (unit ∷ [])) e
    ∙ ap (λ os. unit_slots z before ++ os) one

-- the slot of a value, by whether it is a reference
pub value_slot_by : (z : ℕ) (rs : List UnitKind) → cond (is_reference_kind rs) (Some z) None ≡ value_slot z rs
value_slot_by z [] = refl
value_slot_by z (any_kind ∷ rs) = refl
value_slot_by z (primitive ∷ rs) = refl
value_slot_by z (reference ∷ rs) = refl
