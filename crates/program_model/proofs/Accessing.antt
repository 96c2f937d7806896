-- What the indexes of a linked program say, in the words of the program.
use Rattle.std.proofs.Common.{◌≡◌, ◌≢◌, ◌↔◌, ℕ, ◌<◌, List, [], length, Vec, Contains, All, AllPairs, Option, Some, None, option_map, unwrap_or, refl, sym, ap, ◌∙◌, subst, arith, get_or}
use Rattle.std.specs.List.{slice_get}
use Rattle.std.specs.Option.{option_to_list}
use Rattle.std.specs.declared.alloc.Global.{Global}
use Rattle.std.proofs.lemmas.List.{length-map}
use Rattle.std.proofs.lemmas.List.Elements.{All-contains, Contains-append_left, Contains-append_right}
use Rattle.std.proofs.lemmas.Option.{same_Some, none-some, slice_get_within}
use Rattle.jvm_model.specs.declared.number.ClassNo.{ClassNo}
use Rattle.jvm_model.specs.declared.program.Origin.{Origin}
use Rattle.jvm_model.specs.Linking.{class_from, names, program_from, methods_from, fields_from}
use Rattle.jvm_model.specs.LinkedPrograms.{IsProgram, class_names}
use Rattle.jvm_model.specs.Programs.{Class, Program}
use Rattle.jvm_model.specs.Subtypes.{IsSubtype}
use Rattle.program_index.specs.declared.parents.Parents.{Parents}
use Rattle.program_model.specs.declared.program.Program.TheInside.{Inside}
use Rattle.program_index.specs.AboveLists.{IsListed}
use Rattle.program_model.specs.FieldSearches.{IsSearchOrder}
use Rattle.program_model.specs.Numbering.{name_in, IsParents}
use Rattle.program_model.specs.Numbers.{name_at, IsClassNumber, IsNumber, IsMethodNumber, IsFieldNumber}
use Rattle.program_index.specs.Supertypes.{direct_of, IsAtOrAbove}
use Rattle.program_model.specs.Indexes.{IsWhole}
use Rattle.program_model.specs.Whole.{IsThroughInterface}
use Rattle.program_model.specs.Declarations.{method_declaration, field_declaration}
use Rattle.program_model.specs.declared.member_table.MemberPlace.{MemberPlace}
use Rattle.program_model.proofs.MemberPlaces.{HasMemberAt, below_places, member_at}
use Rattle.program_model.proofs.Bridges.{names_are, zip_length, map_from, map_to, name_at_in, at_number, numbered, to_numbers, to_names, IsNumbered}
use Rattle.program_index.proofs.Gathering.{listed_in_range}
use Rattle.program_index.proofs.OrderPlaces.{stands_below, contains_first}
use Rattle.program_model.proofs.SearchOrders.{search_order}
use Rattle.program_index.proofs.Searching.{listed_from_interface, interface_is_listed}

abbrev pub class_no : ℕ → ClassNo
class_no n = record { 0 = n }

of_class_no : (o : Option ℕ) (n : ClassNo) → option_map class_no o ≡ Some n → o ≡ Some n.0
of_class_no None n e = absurd (none-some n e)
of_class_no (Some k) n e = ap (λ (m : ClassNo). Some m.0) (same_Some (class_no k) n e)

module _ (inside : Inside) (w : IsWhole inside) where
  abbrev order : List Origin
  order = inside.origins.items

  abbrev texts : List (List ℕ)
  texts = inside.names.items

  abbrev parents : List Parents
  parents = inside.parents.items

  abbrev lists : List (Vec ℕ Global)
  lists = inside.above.items

  abbrev p : Program
  p = program_from order

  pub differ : AllPairs (λ x y. x ≢ y) (names order)
  differ = subst (λ (ns : List (List ℕ)). AllPairs (λ x y. x ≢ y) ns) (names_are order) w.program.differ

  pub same_size : length p.classes ≡ length parents
  same_size = let first = length-map order class_from in let second = zip_length _ order parents w.parents_are in omega (arith, first, second)

  pub below_parents : (k : ℕ) → IsClassNumber p k → k < length parents
  below_parents k h = omega (arith, h, same_size)

  pub below_lists : (k : ℕ) → IsClassNumber p k → k < length lists
  below_lists k h = let size = w.lists_are.size in omega (arith, h, same_size, size)

  below_names : (k : ℕ) → IsClassNumber p k → k < length (names order)
  below_names k h =
      let first = length-map p.classes (λ (c : Class). c.name) in
      let second : length (class_names p) ≡ length (names order) = ap length (names_are order) in
      omega (arith, h, first, second)

  from_names : (k : ℕ) → k < length (names order) → IsClassNumber p k
  from_names k h =
      let first = length-map p.classes (λ (c : Class). c.name) in
      let second : length (class_names p) ≡ length (names order) = ap length (names_are order) in
      omega (arith, h, first, second)

  is_numbered : (k : ℕ) (c : Class) → slice_get p.classes k ≡ Some c → (par : Parents) × IsNumbered order parents differ w.parents_are k c par
  is_numbered k c e = numbered order parents differ w.parents_are k c (at_number order k c e)

  names_of_option : (o : Option ℕ) → option_map (λ (n : ClassNo). name_at p n.0) (option_map class_no o) ≡ option_map (name_in (names order)) o
  names_of_option None = refl
  names_of_option (Some k) = ap Some (name_at_in order k)

  pub super_number : (k : ℕ) (c : Class) (par : Parents) → IsClassNumber p k → slice_get p.classes k ≡ Some c → slice_get parents k ≡ Some par → IsNumber p c.super_class (option_map class_no par.super_class)
  super_number k c par h e f =
      let is = is_numbered k c e in
      let same : is.0 ≡ par = same_Some is.0 par (sym is.1.stands ∙ f) in
      let are : IsParents (names order) c par = subst (IsParents (names order) c) same is.1.are_supers in
      record {
        below = λ n g.
            let among : Contains (direct_of par) n.0 = in_supers par n.0 (of_class_no par.super_class n g) in
            from_names n.0 (All-contains (λ (z : ℕ). z < length (names order)) (direct_of par) n.0 are.below among);
        named = names_of_option par.super_class ∙ are.super_class;
      }
    where
      in_supers : (par : Parents) (n : ℕ) → par.super_class ≡ Some n → Contains (direct_of par) n
      in_supers q n g = Contains-append_right q.interfaces.items (option_to_list q.super_class) n (subst (λ (o : Option ℕ). Contains (option_to_list o) n) (sym g) (contains_first n []))

  -- ---- names

  named_there : (k : ℕ) (name : List ℕ) → slice_get texts k ≡ Some name → IsClassNumber p k × (name_at p k ≡ name)
  named_there k name e =
      let there : slice_get (names order) k ≡ Some name = subst (λ (ns : List (List ℕ)). slice_get ns k ≡ Some name) w.names_are e in
      (from_names k (slice_get_within (names order) k name there), name_at_in order k ∙ ap (λ (o : Option (List ℕ)). unwrap_or o []) there)

  stands_there : (k : ℕ) → IsClassNumber p k → slice_get texts k ≡ Some (name_at p k)
  stands_there k h =
      let there = stands_below (names order) k (below_names k h) in
      let name : name_at p k ≡ there.0 = name_at_in order k ∙ ap (λ (o : Option (List ℕ)). unwrap_or o []) there.1 in
      subst (λ (ns : List (List ℕ)). slice_get ns k ≡ Some (name_at p k)) (sym w.names_are) (there.1 ∙ ap Some (sym name))

  -- ---- subtypes

  pub subtype : (l u : ℕ) → IsClassNumber p l → IsClassNumber p u → IsAtOrAbove parents l u ↔ IsSubtype p (name_at p u) (name_at p l)
  subtype l u below_l below_u = (
    λ a. subst (λ (n : List ℕ). IsSubtype p n (name_at p l)) (sym (name_at_in order u)) (subst (IsSubtype p (name_in (names order) u)) (sym (name_at_in order l)) (to_names order parents differ w.parents_are l u a)),
    λ s. to_numbers order parents differ w.parents_are u l (below_names u below_u) (below_names l below_l) (name_at p l) (name_at_in order l) (subst (λ (n : List ℕ). IsSubtype p n (name_at p l)) (name_at_in order u) s),
  )

  -- ---- supertypes through interfaces

  pub through_below : (k : ℕ) (list : Vec ℕ Global) → IsClassNumber p k → slice_get lists k ≡ Some list → All (IsClassNumber p) list.items
  through_below k list h e =
      let listed = w.lists_are.each k (below_parents k h) in
      let same : listed.list ≡ list = same_Some listed.list list (sym listed.stands ∙ e) in
      let range = listed_in_range parents k listed.list.items w.in_range listed.searched in
      subst (λ (v : Vec ℕ Global). All (IsClassNumber p) v.items) same (λ i d lt. let inside = range i d lt in omega (arith, inside, same_size))

  pub through_exact : (k : ℕ) (list : Vec ℕ Global) → IsClassNumber p k → slice_get lists k ≡ Some list → (c : Class) → slice_get p.classes k ≡ Some c
      → (n : ℕ) → IsClassNumber p n → Contains list.items n ↔ IsThroughInterface p c n
  through_exact k list h e c f n below_n =
      let listed = w.lists_are.each k (below_parents k h) in
      let same : listed.list ≡ list = same_Some listed.list list (sym listed.stands ∙ e) in
      let is = is_numbered k c f in
      subst (λ (v : Vec ℕ Global). Contains v.items n ↔ IsThroughInterface p c n) same (out listed is.0 is.1, back listed is.0 is.1)
    where
      out : (listed : IsListed parents lists k) (par : Parents) → IsNumbered order parents differ w.parents_are k c par → Contains listed.list.items n → IsThroughInterface p c n
      out listed par is among =
          let from = listed_from_interface parents k listed.list.items listed.searched n among in
          let same : from.1.parents ≡ par = same_Some from.1.parents par (sym from.1.stands ∙ is.stands) in
          let there : Contains par.interfaces.items from.0 = subst (λ (q : Parents). Contains q.interfaces.items from.0) same from.1.among in
          record {
            interface = name_in (names order) from.0;
            among = subst (λ (ns : List (List ℕ)). Contains ns (name_in (names order) from.0)) is.are_supers.interfaces (map_to (name_in (names order)) par.interfaces.items from.0 there);
            above = subst (λ (m : List ℕ). IsSubtype p m (name_in (names order) from.0)) (sym (name_at_in order n)) (to_names order parents differ w.parents_are from.0 n from.2);
          }

      back : (listed : IsListed parents lists k) (par : Parents) → IsNumbered order parents differ w.parents_are k c par → IsThroughInterface p c n → Contains listed.list.items n
      back listed par is t =
          let z = map_from (name_in (names order)) par.interfaces.items t.interface (subst (λ (ns : List (List ℕ)). Contains ns t.interface) (sym is.are_supers.interfaces) t.among) in
          let among : Contains (direct_of par) z.0 = Contains-append_left par.interfaces.items (option_to_list par.super_class) z.0 z.1 in
          let below_z = All-contains (λ (m : ℕ). m < length (names order)) (direct_of par) z.0 is.are_supers.below among in
          let up = to_numbers order parents differ w.parents_are n z.0 (below_names n below_n) below_z t.interface (sym z.2) (subst (λ (m : List ℕ). IsSubtype p m t.interface) (name_at_in order n) t.above) in
          interface_is_listed parents k listed.list.items listed.searched z.0 n (record { parents = par; stands = is.stands; among = z.1 }) up

  pub through_order : (k : ℕ) (list : Vec ℕ Global) → IsClassNumber p k → slice_get lists k ≡ Some list → (c : Class) → slice_get p.classes k ≡ Some c → IsSearchOrder p c list.items
  through_order k list h e c f =
      let listed = w.lists_are.each k (below_parents k h) in
      let same : listed.list ≡ list = same_Some listed.list list (sym listed.stands ∙ e) in
      let is = is_numbered k c f in
      subst (λ (v : Vec ℕ Global). IsSearchOrder p c v.items) same (search_order order parents differ w.parents_are k c is.0 listed.list.items is.1 listed.searched)

  -- ---- the same of a program that is seen as this one

  module _ (q : Program) (view : p ≡ q) where
    pub below_parents_in : (k : ℕ) → IsClassNumber q k → k < length parents
    below_parents_in = subst (λ (r : Program). (k : ℕ) → IsClassNumber r k → k < length parents) view below_parents

    pub below_lists_in : (k : ℕ) → IsClassNumber q k → k < length lists
    below_lists_in = subst (λ (r : Program). (k : ℕ) → IsClassNumber r k → k < length lists) view below_lists

    pub super_number_in : (k : ℕ) (c : Class) (par : Parents) → IsClassNumber q k → slice_get q.classes k ≡ Some c → slice_get parents k ≡ Some par → IsNumber q c.super_class (option_map class_no par.super_class)
    super_number_in =
        subst (λ (r : Program). (k : ℕ) (c : Class) (par : Parents) → IsClassNumber r k → slice_get r.classes k ≡ Some c → slice_get parents k ≡ Some par → IsNumber r c.super_class (option_map class_no par.super_class)) view super_number

    pub subtype_in : (l u : ℕ) → IsClassNumber q l → IsClassNumber q u → IsAtOrAbove parents l u ↔ IsSubtype q (name_at q u) (name_at q l)
    subtype_in =
        subst (λ (r : Program). (l u : ℕ) → IsClassNumber r l → IsClassNumber r u → IsAtOrAbove parents l u ↔ IsSubtype r (name_at r u) (name_at r l)) view subtype

    pub through_below_in : (k : ℕ) (list : Vec ℕ Global) → IsClassNumber q k → slice_get lists k ≡ Some list → All (IsClassNumber q) list.items
    through_below_in =
        subst (λ (r : Program). (k : ℕ) (list : Vec ℕ Global) → IsClassNumber r k → slice_get lists k ≡ Some list → All (IsClassNumber r) list.items) view through_below

    pub through_exact_in : (k : ℕ) (list : Vec ℕ Global) → IsClassNumber q k → slice_get lists k ≡ Some list → (c : Class) → slice_get q.classes k ≡ Some c
        → (n : ℕ) → IsClassNumber q n → Contains list.items n ↔ IsThroughInterface q c n
    through_exact_in =
        subst (λ (r : Program). (k : ℕ) (list : Vec ℕ Global) → IsClassNumber r k → slice_get lists k ≡ Some list → (c : Class) → slice_get r.classes k ≡ Some c
        → (n : ℕ) → IsClassNumber r n → Contains list.items n ↔ IsThroughInterface r c n) view through_exact

    pub named_in : (k : ℕ) (name : List ℕ) → slice_get texts k ≡ Some name → IsClassNumber q k × (name_at q k ≡ name)
    named_in = subst (λ (r : Program). (k : ℕ) (name : List ℕ) → slice_get texts k ≡ Some name → IsClassNumber r k × (name_at r k ≡ name)) view named_there

    pub stands_in : (k : ℕ) → IsClassNumber q k → slice_get texts k ≡ Some (name_at q k)
    stands_in = subst (λ (r : Program). (k : ℕ) → IsClassNumber r k → slice_get texts k ≡ Some (name_at r k)) view stands_there

    pub through_order_in : (k : ℕ) (list : Vec ℕ Global) → IsClassNumber q k → slice_get lists k ≡ Some list → (c : Class) → slice_get q.classes k ≡ Some c → IsSearchOrder q c list.items
    through_order_in =
        subst (λ (r : Program). (k : ℕ) (list : Vec ℕ Global) → IsClassNumber r k → slice_get lists k ≡ Some list → (c : Class) → slice_get r.classes k ≡ Some c → IsSearchOrder r c list.items) view through_order

    -- ---- where members stand

    program_in : IsProgram q
    program_in = subst IsProgram view w.program

    pub below_methods : (n : ℕ) → IsMethodNumber q n → n < length inside.methods.places.items
    below_methods =
        below_places method_declaration methods_from order q.methods (ap (λ (r : Program). r.methods) view) program_in.members.methods inside.methods.places.items w.methods_are.told_by_places

    pub method_at : (n : ℕ) (place : MemberPlace) → IsMethodNumber q n → place ≡ get_or inside.methods.places.items n place → HasMemberAt methods_from order q.methods n place
    method_at =
        member_at method_declaration methods_from order q.methods (ap (λ (r : Program). r.methods) view) program_in.members.methods inside.methods.places.items w.methods_are.told_by_places

    pub below_fields : (n : ℕ) → IsFieldNumber q n → n < length inside.fields.places.items
    below_fields =
        below_places field_declaration fields_from order q.fields (ap (λ (r : Program). r.fields) view) program_in.members.fields inside.fields.places.items w.fields_are.told_by_places

    pub field_at : (n : ℕ) (place : MemberPlace) → IsFieldNumber q n → place ≡ get_or inside.fields.places.items n place → HasMemberAt fields_from order q.fields n place
    field_at =
        member_at field_declaration fields_from order q.fields (ap (λ (r : Program). r.fields) view) program_in.members.fields inside.fields.places.items w.fields_are.told_by_places
