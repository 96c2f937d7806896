-- The members of a sound class differ in name or descriptor, and so do those of a class in a program.
use Rattle.std.proofs.Common.{◌≡◌, ◌≢◌, inl, inr, ℕ, zero, suc, ◌+◌, ◌<◌, ◌≤◌, Bool, true, false, not, ◌&&◌, ◌||◌, List, [], ◌∷◌, length, map, take, get_or, All, AllPairs, Contains, Some, refl, sym, ap, ◌∙◌, subst, arith}
use Rattle.std.specs.List.{enumerate_from, flat_map, list_any, slice_get}
use Rattle.std.specs.Str.{bytes_eq}
use Rattle.std.proofs.lemmas.Bool.{and_parts, cases_lt}
use Rattle.std.proofs.lemmas.List.{length-take-le, get_or-take}
use Rattle.std.proofs.lemmas.List.Elements.{Contains-get_or}
use Rattle.std.proofs.lemmas.Option.{slice_get_within, get_or_from_slice_get, same_Some, none-some}
use Rattle.std.proofs.lemmas.Slice.Eq.{bytes_eq-Decides}
use Rattle.jvm_model.specs.declared.class_file.Member.{Member}
use Rattle.jvm_model.specs.declared.grammar.Grammar.{Grammar}
use Rattle.jvm_model.specs.declared.grammar.Grammar.TheVariants.{FieldName, FieldDescriptor, MethodName, MethodDescriptor}
use Rattle.jvm_model.specs.declared.pool.PoolEntry.{PoolEntry}
use Rattle.jvm_model.specs.declared.program.Origin.{Origin}
use Rattle.jvm_model.specs.declared.program.Origin.TheVariants.{Folder, Stub}
use Rattle.jvm_model.specs.declared.stub.StubField.{StubField}
use Rattle.jvm_model.specs.declared.stub.StubMethod.{StubMethod}
use Rattle.jvm_model.specs.Automata.{all_differ}
use Rattle.jvm_model.specs.LinkedPrograms.{class_names, IsThere, MembersDiffer}
use Rattle.jvm_model.specs.Linking.{class_from, methods_from, fields_from, folder_method, program_from}
use Rattle.jvm_model.specs.Lookups.{Signature}
use Rattle.jvm_model.specs.Programs.{Method, Field, field_of, signature_of}
use Rattle.jvm_model.specs.Stubs.{is_same_method, is_same_field, method_of_stub, field_of_stub}
use Rattle.jvm_model.proofs.SoundUses.{text_there}
use Rattle.program_model.specs.Origins.{IsSoundOrigin}
use Rattle.program_index.proofs.ListPlaces.{map_at}
use Rattle.program_index.proofs.OrderPlaces.{all_at}
use Rattle.program_model.proofs.MemberUses.{HasNameUses, field_uses, method_uses, text_is}
use Rattle.program_model.specs.DeclaredClasses.{method_classes, field_classes}
use Rattle.program_model.proofs.MembersTold.{named_at, one_place}
use Rattle.program_model.proofs.Pieces.{among_at, place_among, in_piece, enumerated_at}

-- ---- members apart

pub record AreApart {M : Type 0} (signature : M → Signature) (ms : List M) : Type 0 where
  pub apart : (p q : ℕ) (m n : M) → slice_get ms p ≡ Some m → slice_get ms q ≡ Some n → signature m ≡ signature n → p ≡ q

apart_from_earlier : {M : Type 0} (signature : M → Signature) (ms : List M)
    → ((p q : ℕ) (m n : M) → p < q → slice_get ms p ≡ Some m → slice_get ms q ≡ Some n → signature m ≡ signature n → ⊥) → AreApart signature ms
apart_from_earlier signature ms differ = record {
  apart = λ p q m n at_p at_q same. elim (cases_lt p q) [
    | inl lt ↦ absurd (differ p q m n lt at_p at_q same)
    | inr ge ↦ elim (cases_lt q p) [
      | inl lt ↦ absurd (differ q p n m lt at_q at_p (sym same))
      | inr le ↦ omega arith
    ]
  ];
}

-- ---- those of a class file

members_apart : (pool : List PoolEntry) (names descriptors : Grammar) (ms : List Member)
    → ((k : ℕ) (m : Member) → slice_get ms k ≡ Some m → HasNameUses pool names descriptors (take k ms) m) → AreApart (signature_of pool) ms
members_apart pool names descriptors ms uses =
    apart_from_earlier (signature_of pool) ms (λ p q m n lt at_p at_q same.
    let of_m = uses p m at_p in
    let of_n = uses q n at_q in
    let name_m = text_there pool m.name of_m.name_leads in
    let name_n = text_there pool n.name of_n.name_leads in
    let descriptor_m = text_there pool m.descriptor of_m.descriptor_leads in
    let descriptor_n = text_there pool n.descriptor of_n.descriptor_leads in
    let same_names = sym (text_is pool m.name name_m.0 name_m.1) ∙ ap (λ (s : Signature). s.name) same ∙ text_is pool n.name name_n.0 name_n.1 in
    let same_descriptors = sym (text_is pool m.descriptor descriptor_m.0 descriptor_m.1) ∙ ap (λ (s : Signature). s.descriptor) same ∙ text_is pool n.descriptor descriptor_n.0 descriptor_n.1 in
    let within : q ≤ length ms = omega (arith, slice_get_within ms q n at_q) in
    let earlier : p < length (take q ms) = omega (arith, length-take-le q ms within) in
    let there = get_or-take q ms p m lt ∙ get_or_from_slice_get ms p m m at_p in
    of_n.differs name_n.0 descriptor_n.0 name_n.1 descriptor_n.1 m (p, earlier, there)
    (name_m.1 ∙ ap (λ (t : List ℕ). Some t) same_names) (descriptor_m.1 ∙ ap (λ (t : List ℕ). Some t) same_descriptors))

-- ---- those of a stub

all_true : (a b : Bool) → a ≡ true → b ≡ true → (a && b) ≡ true
all_true a b p q = (λ i. p i && q i)

any_at : {X : Type 0} (test : X → Bool) (xs : List X) (k : ℕ) (x : X) → slice_get xs k ≡ Some x → test x ≡ true → list_any test xs ≡ true
any_at test [] k x e is = absurd (none-some x e)
any_at test (y ∷ xs) zero x e is = ap (λ (b : Bool). b || list_any test xs) (ap test (same_Some _ _ e) ∙ is)
any_at test (y ∷ xs) (suc k) x e is = or_true (test y) (list_any test xs) (any_at test xs k x e is)
  where
    or_true : (a b : Bool) → b ≡ true → (a || b) ≡ true
    or_true true b h = refl
    or_true false b h = h

all_apart : {X : Type 0} (same : X → X → Bool) (xs : List X) → all_differ same xs ≡ true → (p q : ℕ) (x y : X) → p < q → slice_get xs p ≡ Some x → slice_get xs q ≡ Some y → same x y ≡ true → ⊥
all_apart same [] h p q x y lt at_p at_q is = none-some x at_p
all_apart same (z ∷ xs) h p zero x y lt at_p at_q is = absurd (omega arith)
all_apart same (z ∷ xs) h zero (suc q) x y lt at_p at_q is =
    let first = (and_parts (not (list_any (same z) xs)) (all_differ same xs) h).0 in
    let found = any_at (same z) xs q y at_q (ap (λ v. same v y) (same_Some _ _ at_p) ∙ is) in
    let never : false ≡ true = sym (ap not found) ∙ first in
    absurd cc
all_apart same (z ∷ xs) h (suc p) (suc q) x y lt at_p at_q is =
    all_apart same xs (and_parts (not (list_any (same z) xs)) (all_differ same xs) h).1 p q x y (omega arith) at_p at_q is

same_texts : (a b c d : List ℕ) → a ≡ b → c ≡ d → (bytes_eq a b && bytes_eq c d) ≡ true
same_texts a b c d e f = all_true (bytes_eq a b) (bytes_eq c d) ((bytes_eq-Decides a b).1 e) ((bytes_eq-Decides c d).1 f)

-- ---- those of an origin

apart_map : {X M : Type 0} (f : X → M) (signature : M → Signature) (xs : List X)
    → ((p q : ℕ) (x y : X) → slice_get xs p ≡ Some x → slice_get xs q ≡ Some y → signature (f x) ≡ signature (f y) → p ≡ q) → AreApart signature (map f xs)
apart_map f signature xs each = record {
  apart = λ p q m n at_p at_q same.
      let x = map_at f xs p m at_p in
      let y = map_at f xs q n at_q in
      each p q x.0 y.0 x.1 y.1 (ap signature x.2 ∙ same ∙ sym (ap signature y.2));
}

pub methods_apart : (o : Origin) → IsSoundOrigin o → AreApart (λ (m : Method). m.signature) (methods_from o)
methods_apart (Folder f natives) sound =
    let c = f.class in
    let all = members_apart c.pool MethodName MethodDescriptor c.methods (method_uses c sound.0.sound) in
    apart_map (folder_method natives c) (λ (m : Method). m.signature) (enumerate_from 0 c.methods)
    (λ p q x y at_p at_q same.
    let first = enumerated_at 0 c.methods p x at_p in
    let second = enumerated_at 0 c.methods q y at_q in
    all.apart p q x.1 y.1 first.1 second.1 same)
methods_apart (Stub c) sound =
    let differ = all_apart is_same_method c.methods sound.0.methods_differ in
    let all = apart_from_earlier (λ (m : StubMethod). record { name = m.name; descriptor = m.descriptor }) c.methods
    (λ p q m n lt at_p at_q same. differ p q m n lt at_p at_q
    (same_texts m.name n.name m.descriptor n.descriptor (ap (λ (s : Signature). s.name) same) (ap (λ (s : Signature). s.descriptor) same))) in
    apart_map (method_of_stub c.name) (λ (m : Method). m.signature) c.methods all.apart

pub fields_apart : (o : Origin) → IsSoundOrigin o → AreApart (λ (f : Field). f.signature) (fields_from o)
fields_apart (Folder f natives) sound =
    let c = f.class in
    let all = members_apart c.pool FieldName FieldDescriptor c.fields (field_uses c sound.0.sound) in
    apart_map (field_of c) (λ (f : Field). f.signature) c.fields all.apart
fields_apart (Stub c) sound =
    let differ = all_apart is_same_field c.fields sound.0.fields_differ in
    let all = apart_from_earlier (λ (f : StubField). record { name = f.name; descriptor = f.descriptor }) c.fields
    (λ p q m n lt at_p at_q same. differ p q m n lt at_p at_q
    (same_texts m.name n.name m.descriptor n.descriptor (ap (λ (s : Signature). s.name) same) (ap (λ (s : Signature). s.descriptor) same))) in
    apart_map (field_of_stub c.name) (λ (f : Field). f.signature) c.fields all.apart

-- ---- those of a program

-- Two members stand in one origin.
pub record InOneOrigin {M : Type 0} (members : Origin → List M) (order : List Origin) (i j : ℕ) (m n : M) : Type 0 where
  pub piece : ℕ
  pub of : Origin
  pub there : slice_get order piece ≡ Some of
  pub first : ℕ
  pub second : ℕ
  pub stands_first : slice_get (members of) first ≡ Some m
  pub stands_second : slice_get (members of) second ≡ Some n
  pub number_first : i ≡ length (flat_map members (take piece order)) + first
  pub number_second : j ≡ length (flat_map members (take piece order)) + second

module _ {M : Type 0} (members : Origin → List M) (class_of : M → List ℕ) (classes : (o : Origin) → All (λ m. class_of m ≡ (class_from o).name) (members o)) (order : List Origin) where
  named : (o : Origin) (k : ℕ) (m : M) → slice_get (members o) k ≡ Some m → class_of m ≡ (class_from o).name
  named o k m e = all_at (λ x. class_of x ≡ (class_from o).name) (members o) k m (classes o) e

  -- those of one class do, since the names of classes differ
  pub one_origin : AllPairs (λ x y. x ≢ y) (class_names (program_from order))
      → (i j : ℕ) (m n : M) → slice_get (flat_map members order) i ≡ Some m → slice_get (flat_map members order) j ≡ Some n → class_of m ≡ class_of n → InOneOrigin members order i j m n
  one_origin differ i j m n at_i at_j class =
      let a = in_piece members order i m at_i in
      let b = in_piece members order j n at_j in
      let names = sym (named a.of a.place m a.stands) ∙ class ∙ named b.of b.place n b.stands in
      let pieces = one_place (class_names (program_from order)) differ a.piece b.piece (class_from a.of).name (class_from b.of).name
      (named_at order a.piece a.of a.there) (named_at order b.piece b.of b.there) names in
      let origins = same_Some _ _ (sym b.there ∙ ap (slice_get order) (sym pieces) ∙ a.there) in
      record {
        piece = a.piece;
        of = a.of;
        there = a.there;
        first = a.place;
        second = b.place;
        stands_first = a.stands;
        stands_second = subst (λ (o : Origin). slice_get (members o) b.place ≡ Some n) origins b.stands;
        number_first = a.number;
        number_second = subst (λ (k : ℕ). j ≡ length (flat_map members (take k order)) + b.place) (sym pieces) b.number;
      }

  same_number : (signature : M → Signature) → ((o : Origin) → IsSoundOrigin o → AreApart signature (members o)) → All IsSoundOrigin order → AllPairs (λ x y. x ≢ y) (class_names (program_from order))
      → (i j : ℕ) (m n : M) → slice_get (flat_map members order) i ≡ Some m → slice_get (flat_map members order) j ≡ Some n → class_of m ≡ class_of n → signature m ≡ signature n → i ≡ j
  same_number signature apart sound differ i j m n at_i at_j class same =
      let both = one_origin differ i j m n at_i at_j class in
      let is_sound = all_at IsSoundOrigin order both.piece both.of sound both.there in
      let places = (apart both.of is_sound).apart both.first both.second m n both.stands_first both.stands_second same in
      omega (arith, places, both.number_first, both.number_second)

  class_there : (m : M) → Contains (flat_map members order) m → IsThere (program_from order) (class_of m)
  class_there m among =
      let at = place_among (flat_map members order) m among in
      let a = in_piece members order at.0 m at.1 in
      let name = named_at order a.piece a.of a.there in
      among_at (class_names (program_from order)) a.piece (class_of m) (name ∙ ap (λ (n : List ℕ). Some n) (sym (named a.of a.place m a.stands)))

-- A member of a class has its name and descriptor alone.
pub members_differ : (order : List Origin) → All IsSoundOrigin order → AllPairs (λ x y. x ≢ y) (class_names (program_from order)) → MembersDiffer (program_from order)
members_differ order sound differ = record {
  methods = same_number methods_from (λ (m : Method). m.class) method_classes order (λ (m : Method). m.signature) methods_apart sound differ;
  fields = same_number fields_from (λ (f : Field). f.class) field_classes order (λ (f : Field). f.signature) fields_apart sound differ;
}

-- Each member belongs to a class of the program.
pub methods_there : (order : List Origin) → All (λ (m : Method). IsThere (program_from order) m.class) (program_from order).methods
methods_there order = λ k d lt.
    let methods = flat_map methods_from order in
    class_there methods_from (λ (m : Method). m.class) method_classes order (get_or methods k d) (Contains-get_or methods k d lt)

pub fields_there : (order : List Origin) → All (λ (f : Field). IsThere (program_from order) f.class) (program_from order).fields
fields_there order = λ k d lt.
    let fields = flat_map fields_from order in
    class_there fields_from (λ (f : Field). f.class) field_classes order (get_or fields k d) (Contains-get_or fields k d lt)
