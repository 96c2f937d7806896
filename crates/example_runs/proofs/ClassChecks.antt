-- The class of an example is sound, and its numbers fit their fields: by tests of its uses, its entries and its members.
use Rattle.std.proofs.Common.{codes, ◌≡◌, ℕ, ◌<◌, ◌^◌, Bool, true, false, not, ◌&&◌, ◌||◌, nat_lt, List, [], ◌∷◌, length, Option, Some, bytes_eq, inl, inr, refl, sym, ap, ◌∙◌, subst, true≢false, ltb-true, arith}
use Rattle.std.specs.List.{AllByRecursion, list_all, list_any}
use Rattle.std.specs.Option.{option_map_or}
use Rattle.std.proofs.lemmas.Bool.{and_parts}
use Rattle.std.proofs.lemmas.List.Elements.{All-contains, All-weaker}
use Rattle.std.proofs.lemmas.List.Sums.{AllPass-from_list_all}
use Rattle.std.proofs.lemmas.Slice.Eq.{bytes_eq-Decides}
use Rattle.jvm_model.specs.declared.class_file.Attribute.{Attribute}
use Rattle.jvm_model.specs.declared.class_file.Member.{Member}
use Rattle.jvm_model.specs.declared.grammar.Grammar.{Grammar}
use Rattle.jvm_model.specs.declared.grammar.Grammar.TheVariants.{ClassOrArray, FieldName, MethodName, FieldDescriptor, MethodDescriptor}
use Rattle.jvm_model.specs.declared.pool.EntryKind.TheVariants as kinds
use Rattle.jvm_model.specs.declared.pool.PoolEntry.{PoolEntry}
use Rattle.jvm_model.specs.declared.pool.PoolEntry.TheVariants.{Utf8, Class, Methodref, NameAndType}
use Rattle.jvm_model.specs.Code.{CodeBody}
use Rattle.jvm_model.specs.Descriptors.{IsFieldDescriptor, IsMethodDescriptor}
use Rattle.jvm_model.specs.Instructions.{HasDescriptorUnits}
use Rattle.jvm_model.specs.Lookups.{entry_at, text_at, class_name_at}
use Rattle.jvm_model.specs.Names.{IsClassName, is_method_name, is_unqualified_name}
use Rattle.jvm_model.specs.Programs.{text_or_none}
use Rattle.jvm_model.specs.Soundness.{IsIn, IsSoundClass, PlacedUse, TextIsIn, Use, UseHolds, text_bytes, leads, superclass, in_grammar, signature, either_signature, no_array, differs, code_there, code_allowed, is_array, is_code, is_text_byte, leads_to, places_of, plain_descriptor, wants_code}
use Rattle.jvm_model.specs.Spelling.{AttributeFits, ClassFits, EntryFits, MemberFits}
use Rattle.jvm_model.specs.Table.{reference}
use Rattle.example_machine.proofs.Types.{class_type, no_types, units_by}
use Rattle.example_runs.specs.Examples.{class_with_main, example_pool}

-- ---- texts

pub plain_is : IsMethodDescriptor plain_descriptor
plain_is = record { parameters = []; outcome = codes "V"; spelled = refl; each = no_types; units = omega arith; outcome_is = inl refl }

-- that of a method without parameters, which gives an object of the class F
abbrev object_type : IsFieldDescriptor (codes "LF;")
object_type = class_type (codes "F") [] refl

pub making_units : HasDescriptorUnits (codes "()LF;") [] (reference ∷ [])
making_units = units_by [] (codes "LF;") no_types refl (inr object_type)

pub class_is : IsClassName (codes "F")
class_is = record { parts = codes "F" ∷ []; some = omega arith; each = AllPass-from_list_all is_unqualified_name (codes "F" ∷ []) refl; joined = refl }

object_is : IsClassName (codes "java/lang/Object")
object_is = record {
  parts = codes "java" ∷ codes "lang" ∷ codes "Object" ∷ [];
  some = omega arith;
  each = AllPass-from_list_all is_unqualified_name (codes "java" ∷ codes "lang" ∷ codes "Object" ∷ []) refl;
  joined = refl;
}

-- the text is one of those of the examples, which are in the grammar
abbrev text_passes : Grammar → List ℕ → Bool
text_passes ClassOrArray text = bytes_eq text (codes "F") || bytes_eq text (codes "java/lang/Object")
text_passes FieldName text = false
text_passes MethodName text = is_method_name text
text_passes FieldDescriptor text = false
text_passes MethodDescriptor text = bytes_eq text plain_descriptor || bytes_eq text (codes "()LF;")

is_class : (text : List ℕ) → text_passes ClassOrArray text ≡ true → IsIn ClassOrArray text
is_class text e = by (bytes_eq text (codes "F")) refl e where
  by : (b : Bool) → bytes_eq text (codes "F") ≡ b → (b || bytes_eq text (codes "java/lang/Object")) ≡ true → IsIn ClassOrArray text
  by true f e = inl (subst IsClassName (sym ((bytes_eq-Decides text (codes "F")).0 f)) class_is)
  by false f e = inl (subst IsClassName (sym ((bytes_eq-Decides text (codes "java/lang/Object")).0 e)) object_is)

is_descriptor : (text : List ℕ) → text_passes MethodDescriptor text ≡ true → IsMethodDescriptor text
is_descriptor text e = by (bytes_eq text plain_descriptor) refl e where
  by : (b : Bool) → bytes_eq text plain_descriptor ≡ b → (b || bytes_eq text (codes "()LF;")) ≡ true → IsMethodDescriptor text
  by true f e = subst IsMethodDescriptor (sym ((bytes_eq-Decides text plain_descriptor).0 f)) plain_is
  by false f e = subst IsMethodDescriptor (sym ((bytes_eq-Decides text (codes "()LF;")).0 e)) making_units.is

is_in : (g : Grammar) (text : List ℕ) → text_passes g text ≡ true → IsIn g text
is_in ClassOrArray text e = is_class text e
is_in FieldName text e = absurd (true≢false (sym e))
is_in MethodName text e = e
is_in FieldDescriptor text e = absurd (true≢false (sym e))
is_in MethodDescriptor text e = is_descriptor text e

abbrev text_fits : List PoolEntry → Grammar → ℕ → Bool
text_fits pool g index = option_map_or (text_passes g) (text_at pool index) true

text_is : (pool : List PoolEntry) (g : Grammar) (index : ℕ) → text_fits pool g index ≡ true → TextIsIn pool g index
text_is pool g index e text at = is_in g text (subst (λ (o : Option (List ℕ)). option_map_or (text_passes g) o true ≡ true) at e)

-- ---- uses

abbrev signature_in : List PoolEntry → Grammar → Grammar → PoolEntry → Bool
signature_in pool names descriptors (NameAndType name descriptor) = text_fits pool names name && text_fits pool descriptors descriptor
signature_in pool names descriptors _ = true

abbrev has_other_name : List PoolEntry → Member → Member → Bool
has_other_name pool m e = not (bytes_eq (text_or_none pool e.name) (text_or_none pool m.name))

abbrev passes : List PoolEntry → Use → Bool
passes pool (text_bytes bytes) = list_all is_text_byte bytes
passes pool (leads allowed index) = leads_to pool allowed index
passes pool (superclass this_class index) = leads_to pool (kinds.Class ∷ []) index
passes pool (in_grammar g index) = text_fits pool g index
passes pool (signature names descriptors index) = option_map_or (signature_in pool names descriptors) (entry_at pool index) true
passes pool (either_signature name descriptor) = text_fits pool MethodName name && text_fits pool MethodDescriptor descriptor
passes pool (no_array index) = option_map_or (λ (name : List ℕ). not (is_array name)) (class_name_at pool index) true
passes pool (differs earlier m) = list_all (has_other_name pool m) earlier
passes pool (code_there m) = list_any (is_code pool) m.attributes
passes pool (code_allowed m earlier a) = wants_code m && not (list_any (is_code pool) earlier)

not_true : (b : Bool) → not b ≡ true → b ≡ false
not_true true e = absurd (true≢false (sym e))
not_true false e = refl

has_text : (pool : List PoolEntry) (index : ℕ) (text : List ℕ) → text_at pool index ≡ Some text → text_or_none pool index ≡ text
has_text pool index text at = ap (λ (o : Option (List ℕ)). option_map_or (λ (t : List ℕ). t) o []) at

holds : (pool : List PoolEntry) (u : Use) → passes pool u ≡ true → UseHolds pool u
holds pool (text_bytes bytes) e = e
holds pool (leads allowed index) e = e
holds pool (superclass this_class index) e = inl e
holds pool (in_grammar g index) e = text_is pool g index e
holds pool (signature names descriptors index) e = λ name descriptor at.
    let both = and_parts (text_fits pool names name) (text_fits pool descriptors descriptor) (subst (λ (o : Option PoolEntry). option_map_or (signature_in pool names descriptors) o true ≡ true) at e) in
    (text_is pool names name both.0, text_is pool descriptors descriptor both.1)
holds pool (either_signature name descriptor) e =
    let both = and_parts (text_fits pool MethodName name) (text_fits pool MethodDescriptor descriptor) e in
    inl (text_is pool MethodName name both.0, text_is pool MethodDescriptor descriptor both.1)
holds pool (no_array index) e = λ name at.
    not_true (is_array name) (subst (λ (o : Option (List ℕ)). option_map_or (λ (n : List ℕ). not (is_array n)) o true ≡ true) at e)
holds pool (differs earlier m) e = λ name descriptor named described other there other_named other_described.
    let differ = not_true _ (All-contains (λ (o : Member). has_other_name pool m o ≡ true) earlier other (AllPass-from_list_all (has_other_name pool m) earlier e) there) in
    true≢false (sym ((bytes_eq-Decides _ _).1 (has_text pool other.name name other_named ∙ sym (has_text pool m.name name named))) ∙ differ)
holds pool (code_there m) e = λ wanted. e
holds pool (code_allowed m earlier a) e = λ is.
    let both = and_parts (wants_code m) (not (list_any (is_code pool) earlier)) e in
    (both.0, not_true (list_any (is_code pool) earlier) both.1)

all_pass : (main : CodeBody) → list_all (λ (p : PlacedUse). passes example_pool p.use_) (places_of (class_with_main main)) ≡ true
all_pass main = refl

pub sound : (main : CodeBody) → IsSoundClass (class_with_main main)
sound main = All-weaker (λ (p : PlacedUse). passes example_pool p.use_ ≡ true) (λ (p : PlacedUse). UseHolds example_pool p.use_) (λ p e. holds example_pool p.use_ e) (places_of (class_with_main main))
    (AllPass-from_list_all (λ (p : PlacedUse). passes example_pool p.use_) (places_of (class_with_main main)) (all_pass main))

-- ---- numbers

each_by : {X : Type 0} (P : X → Type 0) (test : X → Bool) → ((x : X) → test x ≡ true → P x) → (xs : List X) → list_all test xs ≡ true → AllByRecursion P xs
each_by P test is [] e = tt
each_by P test is (x ∷ xs) e =
    let both = and_parts (test x) (list_all test xs) e in
    (is x both.0, each_by P test is xs both.1)

abbrev pub are_bytes : List ℕ → Bool
are_bytes bytes = list_all (λ (b : ℕ). nat_lt b 256) bytes

each_byte : (bytes : List ℕ) → are_bytes bytes ≡ true → AllByRecursion (λ (b : ℕ). b < 2 ^ 8) bytes
each_byte bytes e = each_by (λ (b : ℕ). b < 2 ^ 8) (λ (b : ℕ). nat_lt b 256) (λ b small. ltb-true b 256 small) bytes e

abbrev entry_fits : PoolEntry → Bool
entry_fits (Utf8 bytes) = nat_lt (length bytes) 65536 && are_bytes bytes
entry_fits (Class name) = nat_lt name 65536
entry_fits (Methodref class member) = nat_lt class 65536 && nat_lt member 65536
entry_fits (NameAndType name descriptor) = nat_lt name 65536 && nat_lt descriptor 65536
entry_fits _ = false

entry_is : (e : PoolEntry) → entry_fits e ≡ true → EntryFits e
entry_is (Utf8 bytes) h =
    let both = and_parts (nat_lt (length bytes) 65536) (are_bytes bytes) h in
    (ltb-true _ _ both.0, each_byte bytes both.1)
entry_is (Class name) h = ltb-true _ _ h
entry_is (Methodref class member) h =
    let both = and_parts (nat_lt class 65536) (nat_lt member 65536) h in
    (ltb-true _ _ both.0, ltb-true _ _ both.1)
entry_is (NameAndType name descriptor) h =
    let both = and_parts (nat_lt name 65536) (nat_lt descriptor 65536) h in
    (ltb-true _ _ both.0, ltb-true _ _ both.1)
entry_is _ h = absurd cc

abbrev attribute_fits : Attribute → Bool
attribute_fits a = nat_lt a.name 65536 && (nat_lt (length a.body) 4294967296 && are_bytes a.body)

attribute_is : (a : Attribute) → attribute_fits a ≡ true → AttributeFits a
attribute_is a h =
    let first = and_parts (nat_lt a.name 65536) (nat_lt (length a.body) 4294967296 && are_bytes a.body) h in
    let second = and_parts (nat_lt (length a.body) 4294967296) (are_bytes a.body) first.1 in
    record { name = ltb-true _ _ first.0; body = ltb-true _ _ second.0; bytes = each_byte a.body second.1 }

abbrev pub member_fits : Member → Bool
member_fits m = nat_lt m.flags 65536 && (nat_lt m.name 65536 && (nat_lt m.descriptor 65536 && (nat_lt (length m.attributes) 65536 && list_all attribute_fits m.attributes)))

member_is : (m : Member) → member_fits m ≡ true → MemberFits m
member_is m h =
    let a = and_parts (nat_lt m.flags 65536) _ h in
    let b = and_parts (nat_lt m.name 65536) _ a.1 in
    let c = and_parts (nat_lt m.descriptor 65536) _ b.1 in
    let d = and_parts (nat_lt (length m.attributes) 65536) (list_all attribute_fits m.attributes) c.1 in
    record {
      flags = ltb-true _ _ a.0;
      name = ltb-true _ _ b.0;
      descriptor = ltb-true _ _ c.0;
      count = ltb-true _ _ d.0;
      attributes = each_by AttributeFits attribute_fits attribute_is m.attributes d.1;
    }

pub class_fits : (main : CodeBody) → list_all member_fits (class_with_main main).methods ≡ true → ClassFits (class_with_main main)
class_fits main each = record {
  minor = omega arith;
  major = omega arith;
  pool_count = omega arith;
  pool = each_by EntryFits entry_fits entry_is example_pool refl;
  pairs = (refl, (refl, (refl, (refl, (refl, (refl, (refl, (refl, (refl, (refl, (refl, (refl, (refl, (refl, (refl, (refl, (refl, (refl, (refl, (refl, (refl, refl)))))))))))))))))))));
  flags = omega arith;
  this_class = omega arith;
  super_class = omega arith;
  interface_count = omega arith;
  interfaces = tt;
  field_count = omega arith;
  fields = tt;
  method_count = omega arith;
  methods = each_by MemberFits member_fits member_is (class_with_main main).methods each;
  attribute_count = omega arith;
  attributes = tt;
}
