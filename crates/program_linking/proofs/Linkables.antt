-- From the demands that are met to what putting the program together needs.
use Rattle.std.proofs.Common.{◌≡◌, ℕ, ◌+◌, Bool, true, false, List, [], ◌∷◌, ◌++◌, map, Contains, Option, Some, refl, sym, ap, subst, inl, inr, ◌⊎◌}
use Rattle.std.specs.List.{flat_map}
use Rattle.std.specs.Option.{option_to_list}
use Rattle.std.specs.Str.{bytes_eq}
use Rattle.std.proofs.lemmas.List.Elements.{All-contains, Contains-append_left, Contains-append_right, Contains-append_cases}
use Rattle.std.proofs.lemmas.List.Sorted.{Contains-permutation, IsPermutation-map, IsPermutation-sym}
use Rattle.std.proofs.lemmas.Slice.Eq.{bytes_eq-Decides}
use Rattle.jvm_model.specs.declared.pool.PoolEntry.{PoolEntry}
use Rattle.jvm_model.specs.declared.program.NamedClass.{NamedClass}
use Rattle.jvm_model.specs.declared.program.Origin.{Origin}
use Rattle.jvm_model.specs.declared.program.Origin.TheVariants.{Folder, Stub}
use Rattle.jvm_model.specs.declared.stub.StubClass.{StubClass}
use Rattle.jvm_model.specs.declared.stub.StubField.{StubField}
use Rattle.jvm_model.specs.declared.stub.StubMethod.{StubMethod}
use Rattle.jvm_model.specs.Linking.{AreMet, Meets, Claim, Description, is_there, of_kind, NamedSuper, class_from, description_claims, folder_origin, interface_places, IsOrder, kind_claim, kind_claims, mention_claim, name_claims, names, native_claims, native_descriptions, origins, own_classes, program_from, stub_descriptions, stub_origin, stub_there_claims, supers_of_file, supers_of_stub, superclass_place, there_claim, there_claims, described_methods}
use Rattle.jvm_model.specs.LinkedPrograms.{HasSupers, IsThere}
use Rattle.jvm_model.specs.Lookups.{class_name_at}
use Rattle.jvm_model.specs.Programs.{Class, Program, class_or_none}
use Rattle.jvm_model.specs.Soundness.{super_class_offset, interfaces_offset}
use Rattle.jvm_model.specs.Stubs.{field_names, method_names, super_of}
use Rattle.jvm_model.specs.Subtypes.{class_named}
use Rattle.program_model.specs.Whole.{IsLinkable}
use Rattle.program_model.proofs.Assembled.{all_from}
use Rattle.program_model.proofs.Bridges.{map_from, map_to, find_there, found_first}
use Rattle.program_linking.specs.Claims.{file_name, stub_name}
use Rattle.program_linking.proofs.DistinctNames.{Differ, differ_permuted, names_differ}
use Rattle.program_linking.proofs.DescribedMembers.{mentioned_there, held_there, DescribesMethod}
use Rattle.program_index.proofs.OrderPlaces.{place_of, contains_at, contains_first, contains_later, contains_cases, contains_none}

-- ---- lists

contains_flat : {X Y : Type 0} (f : X → List Y) (xs : List X) (x : X) (y : Y) → Contains xs x → Contains (f x) y → Contains (flat_map f xs) y
contains_flat f [] x y h g = absurd (contains_none x h)
contains_flat {X} {Y} f (z ∷ xs) x y h g =
    by (contains_flat f xs x y) (contains_cases z xs x h)
  where
    by : (Contains xs x → Contains (f x) y → Contains (flat_map f xs) y) → (z ≡ x) ⊎ Contains xs x → Contains (f z ++ flat_map f xs) y
    by rest (inl e) = Contains-append_left (f z) (flat_map f xs) y (subst (λ (w : X). Contains (f w) y) (sym e) g)
    by rest (inr later) = Contains-append_right (f z) (flat_map f xs) y (rest later g)

module _ (files : List NamedClass) (stubs : List StubClass) where
  abbrev pub own : List StubClass
  own = own_classes stubs

  names_unsorted : (fs : List NamedClass) (cs : List StubClass) → names (map (folder_origin stubs) fs ++ map (stub_origin stubs) cs) ≡ map file_name fs ++ map stub_name cs
  names_unsorted [] [] = refl
  names_unsorted [] (c ∷ cs) = ap (λ (ns : List (List ℕ)). stub_name c ∷ ns) (names_unsorted [] cs)
  names_unsorted (f ∷ fs) cs = ap (λ (ns : List (List ℕ)). file_name f ∷ ns) (names_unsorted fs cs)

  module _ (order : List Origin) (is : IsOrder (origins files stubs) order) where
    abbrev pub p : Program
    p = program_from order

    differ : AreMet p (name_claims files own) → Differ (names order)
    differ met =
        differ_permuted (names (origins files stubs)) (names order) (IsPermutation-map (λ (o : Origin). (class_from o).name) (origins files stubs) order is.same)
        (subst Differ (sym (names_unsorted files own)) (names_differ p files stubs met))

    -- ---- supertypes

    -- a class that is there, of a kind
    class_there : (name : List ℕ) (kind : Bool) → Meets p (is_there name) → Meets p (of_kind kind name) → (c : Class) × (class_named p name ≡ Some c) × (c.is_interface ≡ kind)
    class_there name kind there of =
        let c = map_from (λ (d : Class). d.name) p.classes name there in
        let k = place_of p.classes c.0 c.1 in
        let found = find_there (λ (d : Class). bytes_eq d.name name) p.classes k.0 c.0 k.1 ((bytes_eq-Decides c.0.name name).1 c.2) in
        let first = found_first (λ (d : Class). bytes_eq d.name name) p.classes found.0 found.1 in
        (found.0, found.1, of found.0 (contains_at p.classes first.0 found.0 first.1) ((bytes_eq-Decides found.0.name name).0 first.2))

    from_origins : (o : Origin) → Contains order o → ((f : NamedClass) × Contains files f × (folder_origin stubs f ≡ o)) ⊎ ((c : StubClass) × Contains own c × (stub_origin stubs c ≡ o))
    from_origins o among =
        elim (Contains-append_cases (map (folder_origin stubs) files) (map (stub_origin stubs) own) o (Contains-permutation order (origins files stubs) o (IsPermutation-sym (origins files stubs) order is.same) among)) [
          | inl first ↦ inl (map_from (folder_origin stubs) files o first)
          | inr second ↦ inr (map_from (stub_origin stubs) own o second)
        ]

    -- a supertype that is named, if its demands are met
    pub record MeetsSupers (named : List NamedSuper) : Type 0 where
      pub each : (s : NamedSuper) → Contains named s → Meets p (is_there s.name) × Meets p (of_kind s.as_interface s.name)

    interface_named : (file : List ℕ) (pool : List PoolEntry) (offset : ℕ) (indices : List ℕ) (name : List ℕ) → Contains (map (class_or_none pool) indices) name
        → (s : NamedSuper) × Contains (interface_places file pool offset indices) s × (s.name ≡ name) × (s.as_interface ≡ true)
    interface_named file pool offset [] name among = absurd (contains_none name among)
    interface_named file pool offset (i ∷ indices) name among = by (interface_named file pool (offset + 2) indices name) (contains_cases (class_or_none pool i) (map (class_or_none pool) indices) name among)
      where
        by : (Contains (map (class_or_none pool) indices) name → (s : NamedSuper) × Contains (interface_places file pool (offset + 2) indices) s × (s.name ≡ name) × (s.as_interface ≡ true))
            → (class_or_none pool i ≡ name) ⊎ Contains (map (class_or_none pool) indices) name → (s : NamedSuper) × Contains (interface_places file pool offset (i ∷ indices)) s × (s.name ≡ name) × (s.as_interface ≡ true)
        by rest (inl e) = (record { name = class_or_none pool i; as_interface = true; file = file; offset = offset }, contains_first _ _, e, refl)
        by rest (inr later) = let s = rest later in (s.0, contains_later _ _ s.0 s.1, s.2, s.3)

    file_supers : (f : NamedClass) → MeetsSupers (supers_of_file f) → HasSupers p (class_from (folder_origin stubs f))
    file_supers f meets = record {
      superclass = λ name e.
          let s : NamedSuper = record { name = name; as_interface = false; file = f.file; offset = super_class_offset f.class } in
          let among = Contains-append_left (map (superclass_place f) (option_to_list (class_name_at f.class.pool f.class.super_class))) (interface_places f.file f.class.pool (interfaces_offset f.class) f.class.interfaces) s (map_to (superclass_place f) (option_to_list (class_name_at f.class.pool f.class.super_class)) name (subst (λ (o : Option (List ℕ)). Contains (option_to_list o) name) (sym e) (contains_first name []))) in
          let both = meets.each s among in
          class_there name false both.0 both.1;
      interfaces = λ name among.
          let s = interface_named f.file f.class.pool (interfaces_offset f.class) f.class.interfaces name among in
          let both = meets.each s.0 (Contains-append_right _ _ s.0 s.1) in
          class_there name true (subst (λ (n : List ℕ). Meets p (is_there n)) s.2 both.0) (subst (λ (n : List ℕ). Meets p (of_kind true n)) s.2 (subst (λ (k : Bool). Meets p (of_kind k s.0.name)) s.3 both.1));
    }

    stub_supers : (c : StubClass) → MeetsSupers (supers_of_stub c) → HasSupers p (class_from (stub_origin stubs c))
    stub_supers c meets = record {
      superclass = λ name e.
          let among = Contains-append_left _ _ _ (map_to _ (option_to_list (super_of c)) name (subst (λ (o : Option (List ℕ)). Contains (option_to_list o) name) (sym e) (contains_first name []))) in
          let both = meets.each _ among in
          class_there name false both.0 both.1;
      interfaces = λ name among.
          let there = Contains-append_right (map _ (option_to_list (super_of c))) _ _ (map_to (λ (n : List ℕ). record { name = n; as_interface = true; file = c.file; offset = 0 }) c.interfaces name among) in
          let both = meets.each _ there in
          class_there name true both.0 both.1;
    }

    -- ---- all of it

    module _ (there : AreMet p (there_claims files stubs)) (kinds : AreMet p (kind_claims files own)) where
      claim_met : (c : Claim) → Contains (there_claims files stubs) c → Meets p c.demand
      claim_met c among = All-contains (λ (d : Claim). Meets p d.demand) (there_claims files stubs) c there among

      kind_met : (c : Claim) → Contains (kind_claims files own) c → Meets p c.demand
      kind_met c among = All-contains (λ (d : Claim). Meets p d.demand) (kind_claims files own) c kinds among

      of_file : (f : NamedClass) → Contains files f → MeetsSupers (supers_of_file f)
      of_file f among = record {
        each = λ s named.
            let all = contains_flat supers_of_file files f s among named in (
              claim_met (there_claim s) (Contains-append_left (map there_claim (flat_map supers_of_file files) ++ flat_map (stub_there_claims stubs) own) (flat_map (native_claims stubs) files) (there_claim s) (Contains-append_left (map there_claim (flat_map supers_of_file files)) (flat_map (stub_there_claims stubs) own) (there_claim s) (map_to there_claim (flat_map supers_of_file files) s all))),
              kind_met (kind_claim s) (Contains-append_left _ _ _ (map_to kind_claim (flat_map supers_of_file files) s all)),
            );
      }

      in_stub : (c : StubClass) → Contains own c → (d : Claim) → Contains (stub_there_claims stubs c) d → Meets p d.demand
      in_stub c among d claimed =
          claim_met d (Contains-append_left (map there_claim (flat_map supers_of_file files) ++ flat_map (stub_there_claims stubs) own) (flat_map (native_claims stubs) files) d (Contains-append_right (map there_claim (flat_map supers_of_file files)) (flat_map (stub_there_claims stubs) own) d (contains_flat (stub_there_claims stubs) own c d among claimed)))

      in_native : (f : NamedClass) → Contains files f → (d : Claim) → Contains (native_claims stubs f) d → Meets p d.demand
      in_native f among d claimed =
          claim_met d (Contains-append_right (map there_claim (flat_map supers_of_file files) ++ flat_map (stub_there_claims stubs) own) (flat_map (native_claims stubs) files) d (contains_flat (native_claims stubs) files f d among claimed))

      of_stub : (c : StubClass) → Contains own c → MeetsSupers (supers_of_stub c)
      of_stub c among = record {
        each = λ s named. (
          in_stub c among (there_claim s) (Contains-append_left (map there_claim (supers_of_stub c) ++ map (mention_claim c.file) (flat_map field_names c.fields)) (description_claims (stub_descriptions stubs c)) (there_claim s) (Contains-append_left (map there_claim (supers_of_stub c)) (map (mention_claim c.file) (flat_map field_names c.fields)) (there_claim s) (map_to there_claim (supers_of_stub c) s named))),
          kind_met (kind_claim s) (Contains-append_right (map kind_claim (flat_map supers_of_file files)) _ _ (map_to kind_claim (flat_map supers_of_stub own) s (contains_flat supers_of_stub own c s among named))),
        );
      }

      supers_of : (o : Origin) → Contains order o → HasSupers p (class_from o)
      supers_of o among = elim (from_origins o among) [
        | inl f ↦ subst (λ (x : Origin). HasSupers p (class_from x)) f.2 (file_supers f.0 (of_file f.0 f.1))
        | inr c ↦ subst (λ (x : Origin). HasSupers p (class_from x)) c.2 (stub_supers c.0 (of_stub c.0 c.1))
      ]

      -- what descriptions mention is there
      told_from : (ds : List Description) (m : StubMethod) → Contains (described_methods ds) m → (name : List ℕ) → Contains (method_names m) name
          → (d : Description) × Contains (description_claims ds) (mention_claim d.file name)
      told_from ds m among name mentioned =
          let d = map_from (λ (x : Description). x.method) ds m among in (
            d.0,
            contains_flat (λ (x : Description). map (mention_claim x.file) (method_names x.method)) ds d.0 (mention_claim d.0.file name) d.1
                (map_to (mention_claim d.0.file) (method_names d.0.method) name (subst (λ (x : StubMethod). Contains (method_names x) name) (sym d.2) mentioned)),
          )

      abbrev methods_of : Origin → List StubMethod
      methods_of (Folder f natives) = natives
      methods_of (Stub c) = c.methods

      described_in : (o : Origin) (m : StubMethod) → DescribesMethod m o → Contains (methods_of o) m
      described_in (Folder f natives) m h = h
      described_in (Stub c) m h = h

      mentioned_in : (o : Origin) → Contains order o → (m : StubMethod) → Contains (methods_of o) m → (name : List ℕ) → Contains (method_names m) name → IsThere p name
      mentioned_in o among m said name mentioned = elim (from_origins o among) [
        | inl f ↦
            let d = told_from (native_descriptions stubs f.0.class) m (subst (λ (x : Origin). Contains (methods_of x) m) (sym f.2) said) name mentioned in
            in_native f.0 f.1 (mention_claim d.0.file name) d.1
        | inr c ↦
            let d = told_from (stub_descriptions stubs c.0) m (subst (λ (x : Origin). Contains (methods_of x) m) (sym c.2) said) name mentioned in
            in_stub c.0 c.1 (mention_claim d.0.file name) (Contains-append_right (map there_claim (supers_of_stub c.0) ++ map (mention_claim c.0.file) (flat_map field_names c.0.fields)) (description_claims (stub_descriptions stubs c.0)) (mention_claim d.0.file name) d.1)
      ]

      abbrev fields_of : Origin → List StubField
      fields_of (Folder f natives) = []
      fields_of (Stub c) = c.fields

      held_in : (o : Origin) → Contains order o → (f : StubField) → Contains (fields_of o) f → (name : List ℕ) → f.holds ≡ Some name → IsThere p name
      held_in o among f said name holds = elim (from_origins o among) [
        | inl g ↦ absurd (contains_none f (subst (λ (x : Origin). Contains (fields_of x) f) (sym g.2) said))
        | inr c ↦
            let named : Contains (field_names f) name = subst (λ (h : Option (List ℕ)). Contains (option_to_list h) name) (sym holds) (contains_first name []) in
            let all = contains_flat field_names c.0.fields f name (subst (λ (x : Origin). Contains (fields_of x) f) (sym c.2) said) named in
            in_stub c.0 c.1 (mention_claim c.0.file name) (Contains-append_left (map there_claim (supers_of_stub c.0) ++ map (mention_claim c.0.file) (flat_map field_names c.0.fields)) (description_claims (stub_descriptions stubs c.0)) (mention_claim c.0.file name) (Contains-append_right (map there_claim (supers_of_stub c.0)) (map (mention_claim c.0.file) (flat_map field_names c.0.fields)) (mention_claim c.0.file name) (map_to (mention_claim c.0.file) (flat_map field_names c.0.fields) name all)))
      ]

      pub linkable : AreMet p (name_claims files own) → IsLinkable order
      linkable met = record {
        sorted = is.sorted;
        differ = differ met;
        supers = all_from (HasSupers p) p.classes (λ c among.
            let o = map_from class_from order c among in
            subst (HasSupers p) o.2 (supers_of o.0 o.1));
        mentioned = mentioned_there order (λ d of_origin. all_from (IsThere p) (method_names d) (λ name among. mentioned_in of_origin.origin of_origin.among d (described_in of_origin.origin d of_origin.said) name among));
        holds = held_there order (λ name held. held_in (Stub held.stub) held.among held.field held.of_stub name held.holds);
      }
