-- Tests that compute whether a class keeps the rules of a stub file. Descriptors are cut up by a guess, and the parts are
-- written out again and compared.
use Rattle.std.proofs.Common.{codes, ◌≡◌, ◌⊎◌, inl, inr, ℕ, zero, suc, ◌+◌, ◌≤◌, Bool, true, false, not, ◌&&◌, ◌||◌, ◌==◌, nat_le, cond, List, [], ◌∷◌, ◌++◌, length, take, drop, get_or, map, All, Option, Some, None, option_map, sum_by, IsTrue, arith, refl, sym, subst}
use Rattle.std.specs.List.{flat_map, list_all, position_or_len, slice_split, AllZip}
use Rattle.std.specs.Option.{is_some, option_map_or}
use Rattle.std.specs.Str.{bytes_eq}
use Rattle.std.proofs.lemmas.Bool.{and_parts}
use Rattle.std.proofs.lemmas.Bool.Decides.{leb_tells}
use Rattle.std.proofs.lemmas.List.Elements.{All-cons, All-nil}
use Rattle.std.proofs.lemmas.Slice.Eq.{bytes_eq-Decides}
use Rattle.jvm_model.specs.declared.descriptor.Kind.{Kind}
use Rattle.jvm_model.specs.declared.descriptor.Kind.TheVariants.{Prim, Class, Array}
use Rattle.jvm_model.specs.declared.stub.StubResult.{StubResult}
use Rattle.jvm_model.specs.declared.stub.StubResult.TheVariants.{Primitive, Void, Null, Given, New, Kept}
use Rattle.jvm_model.specs.declared.stub.StubMethod.{StubMethod}
use Rattle.jvm_model.specs.declared.stub.StubField.{StubField}
use Rattle.jvm_model.specs.declared.stub.StubClass.{StubClass}
use Rattle.jvm_model.specs.Automata.{all_differ}
use Rattle.jvm_model.specs.Descriptors.{is_base_letter, units_of}
use Rattle.jvm_model.specs.DescriptorValues.{is_wide, IsKind, IsMethodOf, IsOutcome}
use Rattle.jvm_model.specs.Names.{is_method_name, is_unqualified_name, IsClassName}
use Rattle.jvm_model.proofs.ClassNames.{class_name_from_parts}
use Rattle.jvm_model.specs.Stubs.{is_same_field, is_same_method}
use Rattle.jvm_model.specs.StubRules.{is_class, is_object_argument, is_primitive, is_reference, lists_outcomes, patches_methods_alone, IsSoundField, IsSoundMethod, IsSoundStub, MayHold, MayReturn}

-- a field descriptor: a letter, a class, or an array of a letter
pub data Part : Type 0 where
  letter : ℕ → Part
  object : List ℕ → Part
  letters : ℕ → Part

abbrev written : Part → List ℕ
written (letter c) = c ∷ []
written (object name) = 76 ∷ (name ++ 59 ∷ [])
written (letters c) = 91 ∷ c ∷ []

abbrev kind_of : Part → Kind
kind_of (letter c) = Prim (is_wide (c ∷ []))
kind_of (object name) = Class name
kind_of (letters c) = Array 1 (c ∷ [])

abbrev names_class : List ℕ → Bool
names_class name = list_all is_unqualified_name (slice_split (λ b. b == 47) name)

abbrev part_ok : Part → Bool
part_ok (letter c) = is_base_letter c
part_ok (object name) = names_class name
part_ok (letters c) = is_base_letter c

part_kind : (p : Part) → part_ok p ≡ true → IsKind (written p) (kind_of p)
part_kind (letter c) h = ((c, h, refl), refl)
part_kind (object name) h = (class_name_from_parts name h, refl)
part_kind (letters c) h = (omega arith, omega arith, inl (c, h, refl), refl)

parts_kinds : (ps : List Part) → list_all part_ok ps ≡ true → AllZip IsKind (map written ps) (map kind_of ps)
parts_kinds [] h = tt
parts_kinds (p ∷ ps) h = let both = and_parts (part_ok p) (list_all part_ok ps) h in (part_kind p both.0, parts_kinds ps both.1)

-- parts of a descriptor, up to a closing parenthesis
abbrev parts_of : ℕ → List ℕ → List Part
parts_of zero text = []
parts_of (suc n) [] = []
parts_of (suc n) (c ∷ text) =
    cond (c == 41) []
    (cond (c == 91) (letters (get_or text 0 0) ∷ parts_of n (drop 1 text))
    (cond (c == 76) (object (take (position_or_len (λ b. b == 59) text) text) ∷ parts_of n (drop (position_or_len (λ b. b == 59) text + 1) text))
    (letter c ∷ parts_of n text)))

abbrev behind_parameters : List ℕ → List ℕ
behind_parameters text = drop (position_or_len (λ b. b == 41) text + 1) text

abbrev first_part : List Part → Option Part
first_part [] = None
first_part (p ∷ ps) = Some p

abbrev outcome_part : List ℕ → Option Part
outcome_part text = cond (bytes_eq text (codes "V")) None (first_part (parts_of 1 text))

abbrev outcome_written : Option Part → List ℕ
outcome_written None = codes "V"
outcome_written (Some p) = written p

abbrev is_method_of : List ℕ → List Part → Option Part → Bool
is_method_of text ps o =
    bytes_eq text (40 ∷ (flat_map (λ p. p) (map written ps) ++ 41 ∷ outcome_written o)) && list_all part_ok ps
    && nat_le (sum_by units_of (map written ps)) 255 && option_map_or part_ok o true

outcome_kind : (o : Option Part) → option_map_or part_ok o true ≡ true → IsOutcome (outcome_written o) (option_map kind_of o)
outcome_kind None h = refl
outcome_kind (Some p) h = part_kind p h

below_limit : (a b : ℕ) → nat_le a b ≡ true → a ≤ b
below_limit a b h = grind (arith, leb_tells)

IsMethodOf-from : (text : List ℕ) (ps : List Part) (o : Option Part) → is_method_of text ps o ≡ true → IsMethodOf text (map kind_of ps) (option_map kind_of o)
IsMethodOf-from text ps o h =
    let a = and_parts _ (option_map_or part_ok o true) h in
    let b = and_parts _ (nat_le (sum_by units_of (map written ps)) 255) a.0 in
    let d = and_parts (bytes_eq text (40 ∷ (flat_map (λ p. p) (map written ps) ++ 41 ∷ outcome_written o))) (list_all part_ok ps) b.0 in
    record {
      parameters = map written ps;
      outcome = outcome_written o;
      spelled = (bytes_eq-Decides text (40 ∷ (flat_map (λ p. p) (map written ps) ++ 41 ∷ outcome_written o))).0 d.0;
      each = parts_kinds ps d.1;
      units = below_limit (sum_by units_of (map written ps)) 255 b.1;
      outcome_is = outcome_kind o a.1;
    }

all_of_test : {X : Type 0} (p : X → Bool) (P : X → Type 0) → ((x : X) → p x ≡ true → P x) → (xs : List X) → list_all p xs ≡ true → All P xs
all_of_test p P of [] h = All-nil P
all_of_test p P of (x ∷ xs) h =
    let both = and_parts (p x) (list_all p xs) h in
    All-cons P x xs (of x both.0) (all_of_test p P of xs both.1)

abbrev may_return : Bool → List Kind → Option Kind → StubResult → Bool
may_return is_static ks o Primitive = option_map_or is_primitive o false
may_return is_static ks o Void = not (is_some o)
may_return is_static ks o Null = option_map_or is_reference o false
may_return is_static ks o (Given a) = option_map_or is_reference o false && is_object_argument is_static ks a
may_return is_static ks o (New name) = option_map_or is_reference o false && names_class name
may_return is_static ks o Kept = option_map_or is_class o false

no_outcome : (o : Option Kind) → not (is_some o) ≡ true → o ≡ None
no_outcome None h = refl
no_outcome (Some k) h = cc

MayReturn-from : (is_static : Bool) (ks : List Kind) (o : Option Kind) (r : StubResult) → may_return is_static ks o r ≡ true → MayReturn is_static ks o r
MayReturn-from is_static ks o Primitive h = h
MayReturn-from is_static ks o Void h = no_outcome o h
MayReturn-from is_static ks o Null h = h
MayReturn-from is_static ks o (Given a) h = let both = and_parts (option_map_or is_reference o false) (is_object_argument is_static ks a) h in (both.0, both.1)
MayReturn-from is_static ks o (New name) h =
    let both = and_parts (option_map_or is_reference o false) (names_class name) h in
    (both.0, class_name_from_parts name both.1)
MayReturn-from is_static ks o Kept h = h

abbrev is_sound_by : List Part → Option Part → StubMethod → Bool
is_sound_by ps o m =
    is_method_name m.name && is_method_of m.descriptor ps o
    && list_all (may_return m.is_static (map kind_of ps) (option_map kind_of o)) m.returns && list_all names_class m.throws
    && list_all (is_object_argument m.is_static (map kind_of ps)) m.keeps && lists_outcomes m

IsSoundMethod-from : (ps : List Part) (o : Option Part) (m : StubMethod) → is_sound_by ps o m ≡ true → IsSoundMethod m
IsSoundMethod-from ps o m h =
    let ks = map kind_of ps in
    let k = option_map kind_of o in
    let a = and_parts _ (lists_outcomes m) h in
    let b = and_parts _ (list_all (is_object_argument m.is_static ks) m.keeps) a.0 in
    let d = and_parts _ (list_all names_class m.throws) b.0 in
    let e = and_parts _ (list_all (may_return m.is_static ks k) m.returns) d.0 in
    let f = and_parts (is_method_name m.name) (is_method_of m.descriptor ps o) e.0 in
    record {
      name = f.0;
      parameters = ks;
      outcome = k;
      descriptor = IsMethodOf-from m.descriptor ps o f.1;
      returns = all_of_test (may_return m.is_static ks k) (MayReturn m.is_static ks k) (MayReturn-from m.is_static ks k) m.returns e.1;
      throws = all_of_test names_class IsClassName class_name_from_parts m.throws d.1;
      keeps = all_of_test (is_object_argument m.is_static ks) (λ x. IsTrue (is_object_argument m.is_static ks x)) (λ x t. t) m.keeps b.1;
      lists = a.1;
    }

abbrev is_sound_method : StubMethod → Bool
is_sound_method m =
    is_sound_by (parts_of (length m.descriptor) (drop 1 m.descriptor)) (outcome_part (behind_parameters m.descriptor)) m

method_sound : (m : StubMethod) → is_sound_method m ≡ true → IsSoundMethod m
method_sound m h = IsSoundMethod-from (parts_of (length m.descriptor) (drop 1 m.descriptor)) (outcome_part (behind_parameters m.descriptor)) m h

abbrev may_hold : Bool → Kind → Option (List ℕ) → Bool
may_hold is_static kind None = true
may_hold is_static kind (Some name) = is_static && is_reference kind && names_class name

MayHold-from : (is_static : Bool) (kind : Kind) (o : Option (List ℕ)) → may_hold is_static kind o ≡ true → MayHold is_static kind o
MayHold-from is_static kind None h = tt
MayHold-from is_static kind (Some name) h =
    let a = and_parts (is_static && is_reference kind) (names_class name) h in
    let b = and_parts is_static (is_reference kind) a.0 in
    (b.0, b.1, class_name_from_parts name a.1)

abbrev is_sound_as : Option Part → StubField → Bool
is_sound_as None f = false
is_sound_as (Some p) f = is_unqualified_name f.name && bytes_eq f.descriptor (written p) && part_ok p && may_hold f.is_static (kind_of p) f.holds

IsSoundField-from : (o : Option Part) (f : StubField) → is_sound_as o f ≡ true → IsSoundField f
IsSoundField-from None f h = cc
IsSoundField-from (Some p) f h =
    let a = and_parts _ (may_hold f.is_static (kind_of p) f.holds) h in
    let b = and_parts _ (part_ok p) a.0 in
    let d = and_parts (is_unqualified_name f.name) (bytes_eq f.descriptor (written p)) b.0 in
    let same : f.descriptor ≡ written p = (bytes_eq-Decides f.descriptor (written p)).0 d.1 in
    record {
      name = d.0;
      kind = kind_of p;
      descriptor = subst (λ (text : List ℕ). IsKind text (kind_of p)) (sym same) (part_kind p b.1);
      holds = MayHold-from f.is_static (kind_of p) f.holds a.1;
    }

abbrev is_sound_field : StubField → Bool
is_sound_field f = is_sound_as (first_part (parts_of 1 f.descriptor)) f

field_sound : (f : StubField) → is_sound_field f ≡ true → IsSoundField f
field_sound f h = IsSoundField-from (first_part (parts_of 1 f.descriptor)) f h

-- a class that is no patch
abbrev has_super : Bool → List ℕ → List ℕ → Bool
has_super is_patch name [] = is_patch || bytes_eq name (codes "java/lang/Object")
has_super is_patch name (b ∷ bs) = not is_patch && names_class (b ∷ bs)

HasSuper-from : (is_patch : Bool) (name super_class : List ℕ) → has_super is_patch name super_class ≡ true
    → (IsTrue (is_patch || bytes_eq name (codes "java/lang/Object")) × (super_class ≡ [])) ⊎ ((is_patch ≡ false) × IsClassName super_class)
HasSuper-from is_patch name [] h = inl (h, refl)
HasSuper-from is_patch name (b ∷ bs) h =
    let both = and_parts (not is_patch) (names_class (b ∷ bs)) h in
    inr (not_patch is_patch both.0, class_name_from_parts (b ∷ bs) both.1)
  where
    not_patch : (p : Bool) → not p ≡ true → p ≡ false
    not_patch true e = cc
    not_patch false e = refl

abbrev pub is_sound_class : StubClass → Bool
is_sound_class c =
    names_class c.name && has_super c.is_patch c.name c.super_class && list_all names_class c.interfaces && list_all is_sound_method c.methods
    && list_all is_sound_field c.fields && all_differ is_same_method c.methods && all_differ is_same_field c.fields && patches_methods_alone c

class_sound : (c : StubClass) → is_sound_class c ≡ true → IsSoundStub c
class_sound c h =
    let a = and_parts _ (patches_methods_alone c) h in
    let b = and_parts _ (all_differ is_same_field c.fields) a.0 in
    let d = and_parts _ (all_differ is_same_method c.methods) b.0 in
    let e = and_parts _ (list_all is_sound_field c.fields) d.0 in
    let f = and_parts _ (list_all is_sound_method c.methods) e.0 in
    let g = and_parts _ (list_all names_class c.interfaces) f.0 in
    let k = and_parts (names_class c.name) (has_super c.is_patch c.name c.super_class) g.0 in
    record {
      name = class_name_from_parts c.name k.0;
      super_class = HasSuper-from c.is_patch c.name c.super_class k.1;
      interfaces = all_of_test names_class IsClassName class_name_from_parts c.interfaces g.1;
      methods = all_of_test is_sound_method IsSoundMethod method_sound c.methods f.1;
      fields = all_of_test is_sound_field IsSoundField field_sound c.fields e.1;
      methods_differ = d.1;
      fields_differ = b.1;
      patch = a.1;
    }

pub classes_sound : (cs : List StubClass) → list_all is_sound_class cs ≡ true → All IsSoundStub cs
classes_sound cs h = all_of_test is_sound_class IsSoundStub class_sound cs h
