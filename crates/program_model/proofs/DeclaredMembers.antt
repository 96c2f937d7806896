-- The methods and the fields of a program, as its classes declare them.
use Rattle.std.proofs.Common.{◌≡◌, ℕ, ◌<◌, ◌++◌, List, [], ◌∷◌, length, map, Some, refl, sym, ap, ◌∙◌, subst, arith}
use Rattle.std.specs.List.{flat_map, slice_get}
use Rattle.std.proofs.lemmas.List.{length-map, map-append}
use Rattle.jvm_model.specs.declared.program.Origin.{Origin}
use Rattle.jvm_model.specs.Linking.{methods_from, fields_from, program_from}
use Rattle.jvm_model.specs.Lookups.{Signature}
use Rattle.jvm_model.specs.Programs.{Method, Field, Program}
use Rattle.jvm_model.specs.Resolution.{Declares, DeclaresField, HasSignature}
use Rattle.program_index.proofs.ListPlaces.{at_map, map_at}
use Rattle.program_model.specs.declared.member_view.MemberView.{MemberView}
use Rattle.program_model.specs.Declarations.{Declaration, IsDeclared, IsMemberView, field_declaration, field_declarations, method_declaration, method_declarations}
use Rattle.program_model.specs.Numbers.{name_at}

pub map_pieces : {X Y Z : Type 0} (g : Y → Z) (f : X → List Y) (xs : List X) → flat_map (λ x. map g (f x)) xs ≡ map g (flat_map f xs)
map_pieces g f [] = refl
map_pieces g f (x ∷ xs) = ap (λ zs. map g (f x) ++ zs) (map_pieces g f xs) ∙ sym (map-append g (f x) (flat_map f xs))

-- one kind of members of a program, and what the classes declare of it
module _ {M : Type 0} (of : Program → List M) (declaration : M → Declaration) (declarations : Origin → List Declaration)
    (are : (os : List Origin) → flat_map declarations os ≡ map declaration (of (program_from os)))
    (order os : List Origin) (q : Program) (same : os ≡ order) (view : program_from order ≡ q) where
  seen : program_from os ≡ q
  seen = ap program_from same ∙ view

  declared : flat_map declarations os ≡ map declaration (of q)
  declared = are os ∙ ap (λ (p : Program). map declaration (of p)) seen

  pub member_below : (n : ℕ) → n < length (of q) → n < length (flat_map declarations os)
  member_below n lt = omega (arith, lt, ap (length {A = Declaration}) declared, length-map (of q) declaration)

  pub member_shown : (n : ℕ) (m : M) (v : MemberView) → ((d : Declaration) → slice_get (flat_map declarations os) n ≡ Some d → IsMemberView (program_from os) d v)
      → slice_get (of q) n ≡ Some m → IsMemberView q (declaration m) v
  member_shown n m v shown e =
      let there = ap (λ (ds : List Declaration). slice_get ds n) declared ∙ at_map declaration (of q) n m e in
      subst (λ (p : Program). IsMemberView p (declaration m) v) seen (shown (declaration m) there)

  -- the member of this number has the signature, and is declared in the class of another number
  pub record IsThere (class : ℕ) (s : Signature) (n : ℕ) : Type 0 where
    pub member : M
    pub stands : slice_get (of q) n ≡ Some member
    pub of_class : (declaration member).class ≡ name_at q class
    pub is : (declaration member).signature ≡ s

  pub member_there : (class : ℕ) (s : Signature) (n : ℕ) → IsDeclared (flat_map declarations os) (name_at (program_from os) class) s n → IsThere class s n
  member_there class s n d =
      let found = map_at declaration (of q) n d.declaration (sym (ap (λ (ds : List Declaration). slice_get ds n) declared) ∙ d.stands) in
      record {
        member = found.0;
        stands = found.1;
        of_class = ap (λ (x : Declaration). x.class) found.2 ∙ d.of_class ∙ ap (λ (p : Program). name_at p class) seen;
        is = ap (λ (x : Declaration). x.signature) found.2 ∙ d.is;
      }

  pub declared_there : (class : ℕ) (s : Signature) (n : ℕ) → IsThere class s n → IsDeclared (flat_map declarations os) (name_at (program_from os) class) s n
  declared_there class s n t = record {
    declaration = declaration t.member;
    stands = ap (λ (ds : List Declaration). slice_get ds n) declared ∙ at_map declaration (of q) n t.member t.stands;
    of_class = t.of_class ∙ ap (λ (p : Program). name_at p class) (sym seen);
    is = t.is;
  }

-- ---- methods

abbrev pub all_methods : Program → List Method
all_methods p = p.methods

pub methods_are : (os : List Origin) → flat_map method_declarations os ≡ map method_declaration (all_methods (program_from os))
methods_are os = map_pieces method_declaration methods_from os

module _ (order os : List Origin) (q : Program) (same : os ≡ order) (view : program_from order ≡ q) where
  pub method_declared : (class : ℕ) (s : Signature) (n : ℕ) → IsDeclared (flat_map method_declarations os) (name_at (program_from os) class) s n → Declares q (HasSignature s) (name_at q class) n
  method_declared class s n d =
      let t = member_there all_methods method_declaration method_declarations methods_are order os q same view class s n d in
      record { method = t.member; stands = t.stands; of_class = t.of_class; is = t.is }

  pub declared_method : (class : ℕ) (s : Signature) (n : ℕ) → Declares q (HasSignature s) (name_at q class) n → IsDeclared (flat_map method_declarations os) (name_at (program_from os) class) s n
  declared_method class s n d =
      declared_there all_methods method_declaration method_declarations methods_are order os q same view class s n
      (record { member = d.method; stands = d.stands; of_class = d.of_class; is = d.is })

-- ---- fields

abbrev pub all_fields : Program → List Field
all_fields p = p.fields

pub fields_are : (os : List Origin) → flat_map field_declarations os ≡ map field_declaration (all_fields (program_from os))
fields_are os = map_pieces field_declaration fields_from os

module _ (order os : List Origin) (q : Program) (same : os ≡ order) (view : program_from order ≡ q) where
  pub field_declared : (class : ℕ) (s : Signature) (n : ℕ) → IsDeclared (flat_map field_declarations os) (name_at (program_from os) class) s n → DeclaresField q s (name_at q class) n
  field_declared class s n d =
      let t = member_there all_fields field_declaration field_declarations fields_are order os q same view class s n d in
      record { field = t.member; stands = t.stands; of_class = t.of_class; is = t.is }

  pub declared_field : (class : ℕ) (s : Signature) (n : ℕ) → DeclaresField q s (name_at q class) n → IsDeclared (flat_map field_declarations os) (name_at (program_from os) class) s n
  declared_field class s n d =
      declared_there all_fields field_declaration field_declarations fields_are order os q same view class s n
      (record { member = d.field; stands = d.stands; of_class = d.of_class; is = d.is })
