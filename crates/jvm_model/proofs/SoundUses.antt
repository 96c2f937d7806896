-- What the uses of a sound class file give at one index, one member or one attribute. The layers above cite it.
use Rattle.std.proofs.Common.{codes, ◌≡◌, ◌⊎◌, inl, inr, ℕ, zero, suc, ◌+◌, ◌<◌, Bool, true, false, ◌||◌, List, [], ◌∷◌, ◌++◌, length, take, drop, get_or, Contains, IsSome, IfSome, IfNone, Option, Some, None, option_map, option_and_then, refl, sym, ap, ◌∙◌, subst, append_assoc}
use Rattle.std.specs.List.{list_any, AllByRecursion}
use Rattle.std.specs.Option.{option_map_or}
use Rattle.std.proofs.lemmas.Bool.{false≢true}
use Rattle.std.proofs.lemmas.List.{append-nil}
use Rattle.std.proofs.lemmas.List.Elements.{recursion_from_All}
use Rattle.std.proofs.lemmas.List.Folds.{list_any-append}
use Rattle.std.proofs.lemmas.Option.{slice_get_within, get_or_from_slice_get}
use Rattle.jvm_model.specs.declared.grammar.Grammar.{Grammar}
use Rattle.jvm_model.specs.declared.grammar.Grammar.TheVariants as grammars
use Rattle.jvm_model.specs.declared.grammar.Grammar.TheVariants.{ClassOrArray}
use Rattle.jvm_model.specs.declared.pool.EntryKind.{EntryKind}
use Rattle.jvm_model.specs.declared.pool.EntryKind.TheVariants as kinds
use Rattle.jvm_model.specs.declared.pool.PoolEntry.{PoolEntry}
use Rattle.jvm_model.specs.declared.pool.PoolEntry.TheVariants.{Utf8, Integer, Float, Long, Double, Class, Str, Fieldref, Methodref, InterfaceMethodref, NameAndType, MethodHandle, MethodType, InvokeDynamic, Taken}
use Rattle.jvm_model.specs.declared.class_file.ClassFile.{ClassFile}
use Rattle.jvm_model.specs.declared.class_file.Member.{Member}
use Rattle.jvm_model.specs.declared.class_file.Attribute.{Attribute}
use Rattle.jvm_model.specs.Layout.{HasFirstCode, IsOnlyCode}
use Rattle.jvm_model.specs.Lookups.{Signature, MemberReference, entry_at, text_in, text_at, class_index_in, class_name_at, signature_in, signature_at, method_in, method_at}
use Rattle.jvm_model.specs.Names.{IsClassName}
use Rattle.jvm_model.specs.Soundness.{PlacedUse, UseHolds, IsIn, IsSoundClass, is_array, is_code, is_of_kind, leads_to, wants_code, at_offset, each_place, entry_uses, entry_places, attribute_places, code_places, field_places, method_places, name_places, header_places, body_places, places_of}
use Rattle.jvm_model.specs.Spelling.{entry, attribute, member}
use Rattle.jvm_model.proofs.CodePlaces.{cut_around}

-- ---- places of which each use holds

abbrev pub Hold : List PoolEntry → List PlacedUse → Type 0
Hold pool places = AllByRecursion (λ (p : PlacedUse). UseHolds pool p.use_) places

pub Hold-left : (pool : List PoolEntry) (xs ys : List PlacedUse) → Hold pool (xs ++ ys) → Hold pool xs
Hold-left pool [] ys h = tt
Hold-left pool (x ∷ xs) ys h = (h.0, Hold-left pool xs ys h.1)

pub Hold-right : (pool : List PoolEntry) (xs ys : List PlacedUse) → Hold pool (xs ++ ys) → Hold pool ys
Hold-right pool [] ys h = h
Hold-right pool (x ∷ xs) ys h = Hold-right pool xs ys h.1

-- the places of one item, where other items stand before it and after it
module _ {X : Type 0} (pool : List PoolEntry) (places : ℕ → List X → X → List PlacedUse) (size : X → ℕ) where
  -- at some offset
  abbrev pub HoldAt : List X → X → Type 0
  HoldAt earlier x = (offset : ℕ) × Hold pool (places offset earlier x)

  pub at_item : (offset : ℕ) (earlier before : List X) (x : X) (after : List X) → Hold pool (each_place places size offset earlier (before ++ x ∷ after)) → HoldAt (earlier ++ before) x
  at_item offset earlier [] x after h = (offset, subst (λ (e : List X). Hold pool (places offset e x)) (sym (append-nil earlier)) (Hold-left pool (places offset earlier x) _ h))
  at_item offset earlier (y ∷ before) x after h =
      let rest = Hold-right pool (places offset earlier y) _ h in
      subst (λ (e : List X). HoldAt e x) (append_assoc earlier (y ∷ []) before) (at_item (offset + size y) (earlier ++ y ∷ []) before x after rest)

  pub at_place : (offset : ℕ) (xs : List X) (k : ℕ) (x : X) → k < length xs → x ≡ get_or xs k x → Hold pool (each_place places size offset [] xs) → HoldAt (take k xs) x
  at_place offset xs k x lt is h =
      at_item offset [] (take k xs) x (drop (k + 1) xs) (subst (λ (ys : List X). Hold pool (each_place places size offset [] ys)) (cut_around xs k x lt is) h)

-- ---- the parts of a sound class file

sound_places : (c : ClassFile) → IsSoundClass c → Hold c.pool (places_of c)
sound_places c sound = recursion_from_All (λ (p : PlacedUse). UseHolds c.pool p.use_) (places_of c) sound

pub sound_pool : (c : ClassFile) → IsSoundClass c → Hold c.pool (each_place (entry_places c.major) (λ e. length (entry e)) 10 [] c.pool)
sound_pool c sound = Hold-left c.pool _ (header_places c ++ body_places c) (sound_places c sound)

pub sound_header : (c : ClassFile) → IsSoundClass c → Hold c.pool (header_places c)
sound_header c sound = Hold-left c.pool (header_places c) (body_places c) (Hold-right c.pool (each_place (entry_places c.major) (λ e. length (entry e)) 10 [] c.pool) _ (sound_places c sound))

pub sound_body : (c : ClassFile) → IsSoundClass c → Hold c.pool (body_places c)
sound_body c sound = Hold-right c.pool (header_places c) (body_places c) (Hold-right c.pool (each_place (entry_places c.major) (λ e. length (entry e)) 10 [] c.pool) _ (sound_places c sound))

-- ---- an entry of a kind

pub of_class : (o : Option PoolEntry) → option_map_or (λ (e : PoolEntry). list_any (λ (k : EntryKind). is_of_kind k e) (kinds.Class ∷ [])) o false ≡ true → (name : ℕ) × (o ≡ Some (Class name))
of_class None h = absurd cc
of_class (Some (Utf8 bytes)) h = absurd cc
of_class (Some (Integer bits)) h = absurd cc
of_class (Some (Float bits)) h = absurd cc
of_class (Some (Long bits)) h = absurd cc
of_class (Some (Double bits)) h = absurd cc
of_class (Some (Class name)) h = (name, refl)
of_class (Some (Str text)) h = absurd cc
of_class (Some (Fieldref class signature)) h = absurd cc
of_class (Some (Methodref class signature)) h = absurd cc
of_class (Some (InterfaceMethodref class signature)) h = absurd cc
of_class (Some (NameAndType name descriptor)) h = absurd cc
of_class (Some (MethodHandle kind reference)) h = absurd cc
of_class (Some (MethodType descriptor)) h = absurd cc
of_class (Some (InvokeDynamic bootstrap signature)) h = absurd cc
of_class (Some Taken) h = absurd cc

pub of_text : (o : Option PoolEntry) → option_map_or (λ (e : PoolEntry). list_any (λ (k : EntryKind). is_of_kind k e) (kinds.Text ∷ [])) o false ≡ true → (bytes : List ℕ) × (o ≡ Some (Utf8 bytes))
of_text None h = absurd cc
of_text (Some (Utf8 bytes)) h = (bytes, refl)
of_text (Some (Integer bits)) h = absurd cc
of_text (Some (Float bits)) h = absurd cc
of_text (Some (Long bits)) h = absurd cc
of_text (Some (Double bits)) h = absurd cc
of_text (Some (Class name)) h = absurd cc
of_text (Some (Str text)) h = absurd cc
of_text (Some (Fieldref class signature)) h = absurd cc
of_text (Some (Methodref class signature)) h = absurd cc
of_text (Some (InterfaceMethodref class signature)) h = absurd cc
of_text (Some (NameAndType name descriptor)) h = absurd cc
of_text (Some (MethodHandle kind reference)) h = absurd cc
of_text (Some (MethodType descriptor)) h = absurd cc
of_text (Some (InvokeDynamic bootstrap signature)) h = absurd cc
of_text (Some Taken) h = absurd cc

pub of_signature : (o : Option PoolEntry) → option_map_or (λ (e : PoolEntry). list_any (λ (k : EntryKind). is_of_kind k e) (kinds.NameAndType ∷ [])) o false ≡ true → (name : ℕ) × (descriptor : ℕ) × (o ≡ Some (NameAndType name descriptor))
of_signature None h = absurd cc
of_signature (Some (Utf8 bytes)) h = absurd cc
of_signature (Some (Integer bits)) h = absurd cc
of_signature (Some (Float bits)) h = absurd cc
of_signature (Some (Long bits)) h = absurd cc
of_signature (Some (Double bits)) h = absurd cc
of_signature (Some (Class name)) h = absurd cc
of_signature (Some (Str text)) h = absurd cc
of_signature (Some (Fieldref class signature)) h = absurd cc
of_signature (Some (Methodref class signature)) h = absurd cc
of_signature (Some (InterfaceMethodref class signature)) h = absurd cc
of_signature (Some (NameAndType name descriptor)) h = (name, descriptor, refl)
of_signature (Some (MethodHandle kind reference)) h = absurd cc
of_signature (Some (MethodType descriptor)) h = absurd cc
of_signature (Some (InvokeDynamic bootstrap signature)) h = absurd cc
of_signature (Some Taken) h = absurd cc

pub of_method : (o : Option PoolEntry) → option_map_or (λ (e : PoolEntry). list_any (λ (k : EntryKind). is_of_kind k e) (kinds.Method ∷ [])) o false ≡ true → (class : ℕ) × (signature : ℕ) × (o ≡ Some (Methodref class signature))
of_method None h = absurd cc
of_method (Some (Utf8 bytes)) h = absurd cc
of_method (Some (Integer bits)) h = absurd cc
of_method (Some (Float bits)) h = absurd cc
of_method (Some (Long bits)) h = absurd cc
of_method (Some (Double bits)) h = absurd cc
of_method (Some (Class name)) h = absurd cc
of_method (Some (Str text)) h = absurd cc
of_method (Some (Fieldref class signature)) h = absurd cc
of_method (Some (Methodref class signature)) h = (class, signature, refl)
of_method (Some (InterfaceMethodref class signature)) h = absurd cc
of_method (Some (NameAndType name descriptor)) h = absurd cc
of_method (Some (MethodHandle kind reference)) h = absurd cc
of_method (Some (MethodType descriptor)) h = absurd cc
of_method (Some (InvokeDynamic bootstrap signature)) h = absurd cc
of_method (Some Taken) h = absurd cc

-- its uses hold
pub entry_holds : (c : ClassFile) (index : ℕ) (e : PoolEntry) → IsSoundClass c → entry_at c.pool index ≡ Some e → (offset : ℕ) × Hold c.pool (at_offset offset (entry_uses c.major e))
entry_holds c zero e sound is = absurd cc
entry_holds c (suc k) e sound is =
    at_place c.pool (entry_places c.major) (λ e. length (entry e)) 10 c.pool k e (slice_get_within c.pool k e is) (sym (get_or_from_slice_get c.pool k e e is)) (sound_pool c sound)

-- ---- what an index stands for

pub text_there : (pool : List PoolEntry) (index : ℕ) → leads_to pool (kinds.Text ∷ []) index ≡ true → (text : List ℕ) × (text_at pool index ≡ Some text)
text_there pool index leads =
    let e = of_text (entry_at pool index) leads in
    (e.0, ap (option_and_then text_in) e.1)

-- the name at an index that leads to a class
pub record NamesClass (c : ClassFile) (index : ℕ) : Type 0 where
  pub name : List ℕ
  pub named : class_name_at c.pool index ≡ Some name
  pub grammar : IsIn ClassOrArray name

pub class_there : (c : ClassFile) (index : ℕ) → IsSoundClass c → leads_to c.pool (kinds.Class ∷ []) index ≡ true → NamesClass c index
class_there c index sound leads =
    let e = of_class (entry_at c.pool index) leads in
    let h = entry_holds c index (Class e.0) sound e.1 in
    let text = text_there c.pool e.0 h.1.0 in
    record {
      name = text.0;
      named = ap (λ (o : Option PoolEntry). option_and_then (text_at c.pool) (option_and_then class_index_in o)) e.1 ∙ text.1;
      grammar = h.1.1.0 text.0 text.1;
    }

pub signature_there : (c : ClassFile) (index : ℕ) → IsSoundClass c → leads_to c.pool (kinds.NameAndType ∷ []) index ≡ true → (s : Signature) × (signature_at c.pool index ≡ Some s)
signature_there c index sound leads =
    let e = of_signature (entry_at c.pool index) leads in
    let h = entry_holds c index (NameAndType e.0 e.1) sound e.2 in
    let name = text_there c.pool e.0 h.1.0 in
    let descriptor = text_there c.pool e.1 h.1.1.0 in
    let both : signature_in c.pool (NameAndType e.0 e.1) ≡ Some (record { name = name.0; descriptor = descriptor.0 }) = simp (name.1, descriptor.1) refl in
    (record { name = name.0; descriptor = descriptor.0 }, ap (option_and_then (signature_in c.pool)) e.2 ∙ both)

pub method_there : (c : ClassFile) (index : ℕ) → IsSoundClass c → leads_to c.pool (kinds.Method ∷ []) index ≡ true → (m : MemberReference) × (method_at c.pool index ≡ Some m)
method_there c index sound leads =
    let e = of_method (entry_at c.pool index) leads in
    let h = entry_holds c index (Methodref e.0 e.1) sound e.2 in
    let class = class_there c e.0 sound h.1.0 in
    let signature = signature_there c e.1 sound h.1.1.0 in
    let both : method_in c.pool (Methodref e.0 e.1) ≡ Some (record { class = class.name; signature = signature.0 }) = simp (class.named, signature.1) refl in
    (record { class = class.name; signature = signature.0 }, ap (option_and_then (method_in c.pool)) e.2 ∙ both)

-- ---- what a reader answers

-- it answers where there is something
pub answers : {X Y : Type 0} (f : X → Y) (r : Option X) (y : Y) (o : Option Y) → option_map f r ≡ o → o ≡ Some y → IsSome r
answers f None y o e is = absurd cc
answers f (Some x) y o e is = refl

-- what it answers there
pub answered : {X Y : Type 0} (f : X → Y) (r : Option X) (x : X) (y : Y) (o : Option Y) → option_map f r ≡ o → r ≡ Some x → o ≡ Some y → y ≡ f x
answered f r x y o e was is =
    let same : Some (f x) ≡ Some y = sym (ap (option_map f) was) ∙ e ∙ is in
    cc

-- ---- the class and its superclass

-- the name of what is no array
pub class_only : (name : List ℕ) → IsIn ClassOrArray name → is_array name ≡ false → IsClassName name
class_only name (inl class) other = class
class_only name (inr (array, field)) other = absurd (false≢true (sym other ∙ array))

pub this_leads : (c : ClassFile) → IsSoundClass c → leads_to c.pool (kinds.Class ∷ []) c.this_class ≡ true
this_leads c sound = (sound_header c sound).0

pub this_no_array : (c : ClassFile) (name : List ℕ) → IsSoundClass c → class_name_at c.pool c.this_class ≡ Some name → is_array name ≡ false
this_no_array c name sound named = (sound_header c sound).1.0 name named

super_use : (c : ClassFile) → IsSoundClass c
    → (leads_to c.pool (kinds.Class ∷ []) c.super_class ≡ true) ⊎ ((c.super_class ≡ 0) × (class_name_at c.pool c.this_class ≡ Some (codes "java/lang/Object")))
super_use c sound = (sound_header c sound).1.1.0

super_no_array : (c : ClassFile) (name : List ℕ) → IsSoundClass c → class_name_at c.pool c.super_class ≡ Some name → is_array name ≡ false
super_no_array c name sound named = (sound_header c sound).1.1.1.0 name named

super_is_class : (c : ClassFile) (name : List ℕ) → IsSoundClass c → class_name_at c.pool c.super_class ≡ Some name → IsClassName name
super_is_class c name sound named =
    by (super_use c sound)
  where
    by : (leads_to c.pool (kinds.Class ∷ []) c.super_class ≡ true) ⊎ ((c.super_class ≡ 0) × (class_name_at c.pool c.this_class ≡ Some (codes "java/lang/Object"))) → IsClassName name
    by (inl leads) =
        let there = class_there c c.super_class sound leads in
        let same : Some there.name ≡ Some name = sym there.named ∙ named in
        let is : there.name ≡ name = cc in
        class_only name (subst (IsIn ClassOrArray) is there.grammar) (super_no_array c name sound named)
    by (inr (none, object)) =
        let nothing : None ≡ Some name = sym (ap (class_name_at c.pool) none) ∙ named in
        absurd cc

super_is_none : (c : ClassFile) → IsSoundClass c → class_name_at c.pool c.super_class ≡ None → (c.super_class ≡ 0) × (class_name_at c.pool c.this_class ≡ Some (codes "java/lang/Object"))
super_is_none c sound named =
    by (super_use c sound)
  where
    by : (leads_to c.pool (kinds.Class ∷ []) c.super_class ≡ true) ⊎ ((c.super_class ≡ 0) × (class_name_at c.pool c.this_class ≡ Some (codes "java/lang/Object"))) → (c.super_class ≡ 0) × (class_name_at c.pool c.this_class ≡ Some (codes "java/lang/Object"))
    by (inl leads) =
        let there = class_there c c.super_class sound leads in
        let nothing : None ≡ Some there.name = sym named ∙ there.named in
        absurd cc
    by (inr object) = object

-- what a reader of the superclass answers
pub super_grammar : {X : Type 0} (f : X → List ℕ) (c : ClassFile) (r : Option X) → IsSoundClass c → option_map f r ≡ class_name_at c.pool c.super_class → IfSome r (λ x. IsClassName (f x))
super_grammar f c None sound e = tt
super_grammar f c (Some x) sound e = super_is_class c (f x) sound (sym e)

pub super_none : {X : Type 0} (f : X → List ℕ) (c : ClassFile) (r : Option X) → IsSoundClass c → option_map f r ≡ class_name_at c.pool c.super_class
    → IfNone r ((c.super_class ≡ 0) × (class_name_at c.pool c.this_class ≡ Some (codes "java/lang/Object")))
super_none f c None sound e = super_is_none c sound (sym e)
super_none f c (Some x) sound e = tt

-- ---- a field or a method

name_uses : (pool : List PoolEntry) (names descriptors : Grammar) (offset : ℕ) (earlier : List Member) (m : Member) → Hold pool (name_places names descriptors offset earlier m)
    → (leads_to pool (kinds.Text ∷ []) m.name ≡ true) × (leads_to pool (kinds.Text ∷ []) m.descriptor ≡ true)
name_uses pool names descriptors offset earlier m h = (h.0, h.1.1.1.0)

field_holds : (c : ClassFile) (m : Member) → IsSoundClass c → Contains c.fields m → (earlier : List Member) × (offset : ℕ) × Hold c.pool (field_places offset earlier m)
field_holds c m sound (k, lt, is) =
    let h = at_place c.pool field_places (λ m. length (member m)) _ c.fields k m lt (sym is) (Hold-left c.pool _ _ (sound_body c sound)) in
    (take k c.fields, h.0, h.1)

method_holds : (c : ClassFile) (m : Member) → IsSoundClass c → Contains c.methods m → (earlier : List Member) × (offset : ℕ) × Hold c.pool (method_places offset earlier m)
method_holds c m sound (k, lt, is) =
    let h = at_place c.pool method_places (λ m. length (member m)) _ c.methods k m lt (sym is) (Hold-left c.pool _ _ (Hold-right c.pool _ _ (sound_body c sound))) in
    (take k c.methods, h.0, h.1)

pub member_leads : (c : ClassFile) (m : Member) → IsSoundClass c → Contains c.fields m ⊎ Contains c.methods m
    → (leads_to c.pool (kinds.Text ∷ []) m.name ≡ true) × (leads_to c.pool (kinds.Text ∷ []) m.descriptor ≡ true)
member_leads c m sound (inl there) =
    let h = field_holds c m sound there in
    let names = name_places grammars.FieldName grammars.FieldDescriptor (h.1 + 2) h.0 m in
    name_uses c.pool grammars.FieldName grammars.FieldDescriptor (h.1 + 2) h.0 m (Hold-left c.pool names (each_place attribute_places (λ a. length (attribute a)) (h.1 + 8) [] m.attributes) h.2)
member_leads c m sound (inr there) =
    let h = method_holds c m sound there in
    let names = name_places grammars.MethodName grammars.MethodDescriptor (h.1 + 2) h.0 m in
    name_uses c.pool grammars.MethodName grammars.MethodDescriptor (h.1 + 2) h.0 m (Hold-left c.pool names (each_place (code_places m) (λ a. length (attribute a)) (h.1 + 8) [] m.attributes) h.2.1)

-- ---- the code of a method

pub first_found : (pool : List PoolEntry) (attributes : List Attribute) (i : ℕ) (a : Attribute) → i < length attributes → a ≡ get_or attributes i a
    → list_any (is_code pool) (take i attributes) ≡ false → is_code pool a ≡ true → HasFirstCode pool attributes a
first_found pool attributes i a lt is none code = record {
  before = take i attributes;
  after = drop (i + 1) attributes;
  first = record { parts = cut_around attributes i a lt is; none_before = none; named_code = code };
}

code_holds : (c : ClassFile) (m : Member) → IsSoundClass c → Contains c.methods m → (offset : ℕ) × Hold c.pool (each_place (code_places m) (λ a. length (attribute a)) offset [] m.attributes)
code_holds c m sound there =
    let h = method_holds c m sound there in
    (h.1 + 8, Hold-right c.pool (name_places grammars.MethodName grammars.MethodDescriptor (h.1 + 2) h.0 m) (each_place (code_places m) (λ a. length (attribute a)) (h.1 + 8) [] m.attributes) h.2.1)

-- what a method's attribute named Code says of the method, and of those before it
allowed : (c : ClassFile) (m : Member) (before : List Attribute) (a : Attribute) (after : List Attribute) → IsSoundClass c → Contains c.methods m → m.attributes ≡ before ++ a ∷ after → is_code c.pool a ≡ true
    → (wants_code m ≡ true) × (list_any (is_code c.pool) before ≡ false)
allowed c m before a after sound there parts code =
    let h = code_holds c m sound there in
    let each = subst (λ (all : List Attribute). Hold c.pool (each_place (code_places m) (λ a. length (attribute a)) h.0 [] all)) parts h.1 in
    let one = at_item c.pool (code_places m) (λ a. length (attribute a)) h.0 [] before a after each in
    one.1.1.0 code

-- after some attributes of which one is named Code, none is
none_further : (c : ClassFile) (m : Member) (before after : List Attribute) → IsSoundClass c → Contains c.methods m → m.attributes ≡ before ++ after → list_any (is_code c.pool) before ≡ true → list_any (is_code c.pool) after ≡ false
none_further c m before [] sound there parts some = refl
none_further c m before (a ∷ after) sound there parts some =
    let more : list_any (is_code c.pool) (before ++ a ∷ []) ≡ true =
    list_any-append (is_code c.pool) before (a ∷ []) ∙ ap (λ (b : Bool). b || list_any (is_code c.pool) (a ∷ [])) some in
    by (none_further c m (before ++ a ∷ []) after sound there (parts ∙ sym (append_assoc before (a ∷ []) after)) more) (is_code c.pool a) refl
  where
    by : list_any (is_code c.pool) after ≡ false → (b : Bool) → is_code c.pool a ≡ b → (is_code c.pool a || list_any (is_code c.pool) after) ≡ false
    by rest true code = absurd (false≢true (sym (allowed c m before a after sound there parts code).1 ∙ some))
    by rest false other = ap (λ (b : Bool). b || list_any (is_code c.pool) after) other ∙ rest

only_code : (c : ClassFile) (m : Member) (a : Attribute) → IsSoundClass c → Contains c.methods m → HasFirstCode c.pool m.attributes a → IsOnlyCode c.pool m.attributes a
only_code c m a sound there h =
    let up_to : list_any (is_code c.pool) (h.before ++ a ∷ []) ≡ true =
    list_any-append (is_code c.pool) h.before (a ∷ []) ∙ ap (λ (b : Bool). b || list_any (is_code c.pool) (a ∷ [])) h.first.none_before ∙ ap (λ (b : Bool). b || false) h.first.named_code in
    record {
      before = h.before;
      after = h.after;
      parts = h.first.parts;
      named_code = h.first.named_code;
      none_before = h.first.none_before;
      none_after = none_further c m (h.before ++ a ∷ []) h.after sound there (h.first.parts ∙ sym (append_assoc h.before (a ∷ []) h.after)) up_to;
    }

no_code : (c : ClassFile) (m : Member) → IsSoundClass c → Contains c.methods m → list_any (is_code c.pool) m.attributes ≡ false → wants_code m ≡ false
no_code c m sound there none =
    by (wants_code m) refl
  where
    by : (b : Bool) → wants_code m ≡ b → wants_code m ≡ false
    by true wanted = absurd (false≢true (sym none ∙ (method_holds c m sound there).2.0 wanted))
    by false unwanted = unwanted

-- what a search for the first one answers
module _ (c : ClassFile) (m : Member) (pool : List PoolEntry) (attributes : List Attribute) (sound : IsSoundClass c) (there : Contains c.methods m) (same_pool : pool ≡ c.pool) (same_attributes : attributes ≡ m.attributes) where
  moved : (a : Attribute) → HasFirstCode pool attributes a → HasFirstCode c.pool m.attributes a
  moved a h = subst (λ (p : List PoolEntry). HasFirstCode p m.attributes a) same_pool (subst (λ (all : List Attribute). HasFirstCode pool all a) same_attributes h)

  pub found_only : {X : Type 0} (f : X → Attribute) (r : Option X) → IfSome r (λ x. HasFirstCode pool attributes (f x)) → IfSome r (λ x. IsOnlyCode c.pool m.attributes (f x))
  found_only f None h = tt
  found_only f (Some x) h = only_code c m (f x) sound there (moved (f x) h)

  pub found_wanted : {X : Type 0} (f : X → Attribute) (r : Option X) → IfSome r (λ x. HasFirstCode pool attributes (f x)) → IfSome r (λ x. wants_code m ≡ true)
  found_wanted f None h = tt
  found_wanted f (Some x) h =
      let first = moved (f x) h in
      (allowed c m first.before (f x) first.after sound there first.first.parts first.first.named_code).0

  pub none_unwanted : {X : Type 0} (r : Option X) → IfNone r (list_any (is_code pool) attributes ≡ false) → IfNone r (wants_code m ≡ false)
  none_unwanted None h =
      let in_pool = subst (λ (p : List PoolEntry). list_any (is_code p) attributes ≡ false) same_pool h in
      no_code c m sound there (subst (λ (all : List Attribute). list_any (is_code c.pool) all ≡ false) same_attributes in_pool)
  none_unwanted (Some x) h = tt
