-- What a described method keeps: the objects in some slots, and no others; so a tuple that is closed still is, unless it lists one of these.
use Rattle.std.proofs.Common.{◌≡◌, ◌≢◌, ◌⊎◌, inl, inr, ℕ, zero, suc, ◌<◌, ◌≤◌, List, [], ◌∷◌, ◌++◌, length, Option, Some, None, Contains, true, false, refl, sym, ◌∙◌, ap, subst}
use Rattle.std.specs.Prelude.{slice_get}
use Rattle.std.specs.List.{flat_map}
use Rattle.std.specs.Option.{option_flatten, option_map_or, option_to_list}
use Rattle.std.proofs.lemmas.List.Elements.{Contains-append_left, Contains-append_right}
use Rattle.list_laws.proofs.Members.{contains_cases, contains_first, contains_none, contains_only}
use Rattle.jvm_model.specs.declared.number.FieldNo.{FieldNo}
use Rattle.jvm_model.specs.declared.site.Site.{Site}
use Rattle.jvm_model.specs.declared.stub.StubArgument.{StubArgument}
use Rattle.op_model.specs.declared.op.Call.{Call as NodeCall}
use Rattle.machine_bytecode.specs.Described.{DescribedMethod, argument_unit, argument_value, places_of}
use Rattle.machine_bytecode.specs.Objects.{Subject}
use Rattle.machine_bytecode.specs.States.{Value, primitive_value, null_value, reference_to, Object, World, slot_at, with_kept, with_object}
use Rattle.machine_nodes.specs.Slots.{argument_values}
use Rattle.points_to_rules.proofs.Flattened.{among_flat}
use Rattle.access_paths.specs.declared.root.Root.TheVariants.{Slot, Static, Returned, Thrown}
use Rattle.stage_facts.specs.Facts.{Tuple, SiteFact, Describes, HasSome, Says}
use Rattle.stage_facts.specs.Values.{View, of_slots, field_in, element_in, Cell, in_root, in_field, in_element, in_kept, cell_value}
use Rattle.stage_edges.specs.Rules.{slot_of, kept_slots}
use Rattle.stage_relations.specs.Relations.{PutsAway}
use Rattle.stage_relations.specs.Laws.{IsIdle}
use Rattle.stage_steps.specs.Said.{IsBounded, IsTracked}
use Rattle.stage_steps.proofs.Paths.{same_place}
use Rattle.stage_steps.proofs.Calm.{Calm, NoneNew, idle_says, calm_push, listed_root, none_new}
use Rattle.list_laws.proofs.Places.{in_longer}
use Rattle.stage_steps.proofs.Born.{longer}
use Rattle.stage_steps.proofs.Shapes.{append_cases}

-- ---- units of a call

pub unit_value : (arguments : List (Option ℕ)) (slots : List Value) (unit : ℕ)
    → slot_at (argument_values arguments slots) unit ≡ option_map_or (slot_at slots) (option_flatten (slice_get arguments unit)) primitive_value
unit_value [] slots unit = refl
unit_value (a ∷ rest) slots zero = refl
unit_value (a ∷ rest) slots (suc unit) = unit_value rest slots unit

place_held : (v : Value) (q : ℕ) → Contains (places_of v) q → v ≡ reference_to q
place_held primitive_value q there = absurd (contains_none q there)
place_held null_value q there = absurd (contains_none q there)
place_held (reference_to place) q there = ap reference_to (contains_only place q there)

flat_contains : {X Y : Type 0} (f : X → List Y) (xs : List X) (x : X) (y : Y) → Contains xs x → Contains (f x) y → Contains (flat_map f xs) y
flat_contains f [] x y there here = absurd (contains_none x there)
flat_contains {X = X} {Y = Y} f (a ∷ xs) x y there here = by (λ later. flat_contains f xs x y later here) (contains_cases a x xs there)
  where
    by : (Contains xs x → Contains (flat_map f xs) y) → (a ≡ x) ⊎ Contains xs x → Contains (f a ++ flat_map f xs) y
    by rest (inl e) = Contains-append_left (f a) (flat_map f xs) y (subst (λ (z : X). Contains (f z) y) (sym e) here)
    by rest (inr later) = Contains-append_right (f a) (flat_map f xs) y (rest later)

-- ---- what is kept

-- one of these slots has the object at the place
pub record IsHeld (slots : List Value) (kept : List ℕ) (place : ℕ) : Type 0 where
  pub slot : ℕ
  pub listed : Contains kept slot
  pub is : slot_at slots slot ≡ reference_to place

-- the places are those of objects in the slots
pub record AreKept (slots : List Value) (kept places : List ℕ) : Type 0 where
  pub from : (place : ℕ) → Contains places place → IsHeld slots kept place

-- what the machine keeps is what stands in the slots that are kept
pub are_kept : (x : Subject) (number : ℕ) (d : DescribedMethod x number) (c : NodeCall) (slots : List Value)
    → AreKept slots (kept_slots c d.stub d.descriptor.parameters)
    (flat_map (λ (a : StubArgument). places_of (argument_value x number d (argument_values c.arguments slots) a)) d.stub.keeps)
are_kept x number d c slots = record {
  from = λ place there.
      let k = among_flat (λ (a : StubArgument). places_of (argument_value x number d (argument_values c.arguments slots) a)) d.stub.keeps place there in
      let value_is = place_held (argument_value x number d (argument_values c.arguments slots) k.of) place k.gives in
      by place k.of k.there (slot_of c d.stub d.descriptor.parameters k.of) refl
      (sym (unit_value c.arguments slots (argument_unit d.stub.is_static d.descriptor.parameters k.of)) ∙ value_is);
}
  where
    by : (place : ℕ) (a : StubArgument) → Contains d.stub.keeps a → (slot : Option ℕ) → slot_of c d.stub d.descriptor.parameters a ≡ slot
        → option_map_or (slot_at slots) (slot_of c d.stub d.descriptor.parameters a) primitive_value ≡ reference_to place
        → IsHeld slots (kept_slots c d.stub d.descriptor.parameters) place
    by place a there None e is =
        absurd (let bad : primitive_value ≡ reference_to place = sym (ap (λ (o : Option ℕ). option_map_or (slot_at slots) o primitive_value) e) ∙ is in cc bad)
    by place a there (Some z) e is = record {
      slot = z;
      listed = flat_contains (λ (b : StubArgument). option_to_list (slot_of c d.stub d.descriptor.parameters b)) d.stub.keeps a z there
          (subst (λ (o : Option ℕ). Contains (option_to_list o) z) (sym e) (contains_first z []));
      is = sym (ap (λ (o : Option ℕ). option_map_or (slot_at slots) o primitive_value) e) ∙ is;
    }

-- what is kept of an object was so before, or is kept now
pub kept_before : (kept places : List ℕ) (number o : ℕ) → option_map_or reference_to (slice_get (kept ++ places) number) null_value ≡ reference_to o
    → (option_map_or reference_to (slice_get kept number) null_value ≡ reference_to o) ⊎ Contains places o
kept_before kept places number o is = by (slice_get (kept ++ places) number) refl
  where
    by : (found : Option ℕ) → slice_get (kept ++ places) number ≡ found
        → (option_map_or reference_to (slice_get kept number) null_value ≡ reference_to o) ⊎ Contains places o
    by None e = absurd (let bad : null_value ≡ reference_to o = sym (ap (λ (p : Option ℕ). option_map_or reference_to p null_value) e) ∙ is in cc bad)
    by (Some place) e =
        let one : place ≡ o = same_place place o (sym (ap (λ (p : Option ℕ). option_map_or reference_to p null_value) e) ∙ is) in
        elim (append_cases kept places number place e) [
          | inl before ↦ inl (ap (λ (p : Option ℕ). option_map_or reference_to p null_value) before ∙ ap reference_to one)
          | inr now ↦ inr (subst (λ (p : ℕ). Contains places p) one now)
        ]

-- a tuple that is closed does not list what is put away
pub not_put_away : (s : Site) (o : ℕ) (w : World) (slots : List Value) (kept places : List ℕ) (u v : Tuple) → AreKept slots kept places
    → Describes s u o w (of_slots slots) → (v.may ≡ false → u.may ≡ false) → PutsAway kept u v → v.may ≡ false → Contains places o → ⊥
not_put_away s o w slots kept places u v are d may away off there =
    let k = are.from o there in
    away off k.slot k.listed (listed_root s o w (of_slots slots) u (Slot k.slot) d (may off) k.is)

-- ---- the world in which more is kept

pub calm_kept : (s : Site) (o : ℕ) (w : World) (places : List ℕ) (v : Tuple) → (v.may ≡ false → Contains places o → ⊥) → Calm s o w (with_kept w places) v
calm_kept s o w places v away = record {
  field = λ f place. refl;
  none = λ unique. none_new s w.heap;
  element = λ off place index is. is;
  kept = λ off number is. elim (kept_before w.kept places number o is) [ inl before ↦ before | inr now ↦ absurd (away off now) ];
}

-- and an object is made
pub calm_kept_push : (s : Site) (o : ℕ) (w : World) (places : List ℕ) (made : Object) (v : Tuple) → (v.may ≡ false → Contains places o → ⊥)
    → ((f : FieldNo) → field_in f made.contents ≡ null_value) → ((index : ℕ) → element_in index made.contents ≡ null_value) → (v.unique ≡ true → made.site ≢ s)
    → Calm s o w (with_object (with_kept w places) made) v
calm_kept_push s o w places made v away no_field no_element apart =
    let calm = calm_push s o w made v no_field no_element apart in
    record {
      field = calm.field;
      none = calm.none;
      element = calm.element;
      kept = λ off number is. elim (kept_before w.kept places number o is) [ inl before ↦ before | inr now ↦ absurd (away off now) ];
    }

-- Facts without an object stay, where one of another site is made.
pub idle_kept_push : (s : Site) (o : ℕ) (w : World) (places : List ℕ) (made : Object) (old new : View) (f : SiteFact) → IsIdle f → made.site ≢ s
    → IsTracked s o (w.heap ++ made ∷ []) → Says s f o w old → Says s f o (with_object (with_kept w places) made) new
idle_kept_push s o w places made old new f idle apart tracked says =
    idle_says s o w (with_object (with_kept w places) made) old new f idle longer_heap none some says
  where
    its_site : (object : Object) → Contains (made ∷ []) object → object.site ≡ s → made.site ≡ s
    its_site object there of_site = ap (λ (y : Object). y.site) (contains_only made object there) ∙ of_site

    longer_heap : length w.heap ≤ o → length (w.heap ++ made ∷ []) ≤ o
    longer_heap = longer s o w.heap (made ∷ []) (λ object there of_site. apart (its_site object there of_site)) tracked

    none : NoneNew s w.heap (w.heap ++ made ∷ [])
    none = record {
      was = λ place object stands of_site. elim (append_cases w.heap (made ∷ []) place object stands) [
        | inl before ↦ record { object = object; stands = before; of_site = of_site }
        | inr late ↦ absurd (apart (its_site object late of_site))
      ];
    }

    some : HasSome s w.heap → HasSome s (w.heap ++ made ∷ [])
    some k = record { place = k.place; object = k.object; stands = in_longer w.heap (made ∷ []) k.place k.object k.stands; of_site = k.of_site }

pub bounded_kept : (w : World) (slots : List Value) (kept places : List ℕ) → IsBounded w slots → AreKept slots kept places
    → IsBounded (with_kept w places) slots
bounded_kept w slots kept places bounded are = record { each = cell }
  where
    cell : (c : Cell) (place : ℕ) → cell_value (with_kept w places) (of_slots slots) c ≡ reference_to place → place < length w.heap
    cell (in_root (Slot z)) place is = bounded.each (in_root (Slot z)) place is
    cell (in_root (Static f)) place is = bounded.each (in_root (Static f)) place is
    cell (in_root Returned) place is = bounded.each (in_root Returned) place is
    cell (in_root Thrown) place is = bounded.each (in_root Thrown) place is
    cell (in_field at f) place is = bounded.each (in_field at f) place is
    cell (in_element at index) place is = bounded.each (in_element at index) place is
    cell (in_kept number) place is = elim (kept_before w.kept places number place is) [
      | inl before ↦ bounded.each (in_kept number) place before
      | inr now ↦ (let k = are.from place now in bounded.each (in_root (Slot k.slot)) place k.is)
    ]
