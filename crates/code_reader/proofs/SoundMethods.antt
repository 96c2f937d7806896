-- The name and the descriptor of a method of a sound class file are there, and the descriptor has kinds.
use Rattle.std.proofs.Common.{◌≡◌, ◌⊎◌, inl, inr, ℕ, zero, suc, ◌+◌, ◌≤◌, true, false, List, [], ◌∷◌, ◌++◌, take, drop, length, replicate, codes, Contains, Option, Some, None, option_and_then, refl, sym, ap, ◌∙◌, subst, arith}
use Rattle.std.specs.List.{list_any, AllZip, AllByRecursion}
use Rattle.std.specs.Option.{option_map_or}
use Rattle.std.proofs.lemmas.List.Elements.{All-contains, Contains-append_left, Contains-append_right, recursion_from_All}
use Rattle.jvm_model.specs.declared.class_file.ClassFile.{ClassFile}
use Rattle.jvm_model.specs.declared.class_file.Member.{Member}
use Rattle.jvm_model.specs.declared.descriptor.Kind.{Kind}
use Rattle.jvm_model.specs.declared.descriptor.Kind.TheVariants.{Prim, Class, Array}
use Rattle.jvm_model.specs.declared.grammar.Grammar.TheVariants as grammars
use Rattle.jvm_model.specs.declared.pool.EntryKind.{EntryKind}
use Rattle.jvm_model.specs.declared.pool.EntryKind.TheVariants as kinds
use Rattle.jvm_model.specs.declared.pool.PoolEntry.{PoolEntry}
use Rattle.jvm_model.specs.declared.pool.PoolEntry.TheVariants.{Utf8}
use Rattle.jvm_model.specs.Descriptors.{IsFieldType, IsFieldDescriptor, IsMethodDescriptor}
use Rattle.jvm_model.specs.DescriptorValues.{is_wide, IsKind, IsOutcome, IsMethodOf}
use Rattle.jvm_model.specs.Lookups.{entry_at, text_in, text_at}
use Rattle.jvm_model.specs.Soundness.{PlacedUse, UseHolds, Use, in_grammar, code_there, differs, is_of_kind, leads_to, at_offset, text_uses, each_place, code_places, method_places, methods_offset, header_places, body_places, places_of, IsSoundClass}
use Rattle.jvm_model.specs.Spelling.{attribute, member}
use Rattle.jvm_model.proofs.CodePlaces.{cut_around}

-- ---- texts

-- an index that leads to a text has one
text_of : (o : Option PoolEntry) → option_map_or (λ (e : PoolEntry). list_any (λ (k : EntryKind). is_of_kind k e) (kinds.Text ∷ [])) o false ≡ true → (text : List ℕ) × (option_and_then text_in o ≡ Some text)
text_of None h = absurd cc
text_of (Some (Utf8 bytes)) h = (bytes, refl)
text_of (Some _) h = absurd cc

pub text_there : (pool : List PoolEntry) (index : ℕ) → leads_to pool (kinds.Text ∷ []) index ≡ true → (text : List ℕ) × (text_at pool index ≡ Some text)
text_there pool index leads = text_of (entry_at pool index) leads

-- ---- the descriptor

-- a place of an item is one of the places of all items
module _ {X : Type 0} (places : ℕ → List X → X → List PlacedUse) (size : X → ℕ) (x : X) (use_ : Use) (there : (offset : ℕ) (earlier : List X) → (at : ℕ) × Contains (places offset earlier x) (record { offset = at; use_ = use_ })) where
  among : (offset : ℕ) (earlier before after : List X) → (at : ℕ) × Contains (each_place places size offset earlier (before ++ x ∷ after)) (record { offset = at; use_ = use_ })
  among offset earlier [] after =
      let here = there offset earlier in
      (here.0, Contains-append_left (places offset earlier x) _ _ here.1)
  among offset earlier (y ∷ before) after =
      let rest = among (offset + size y) (earlier ++ y ∷ []) before after in
      (rest.0, Contains-append_right (places offset earlier y) _ _ rest.1)

descriptor_place : (m : Member) (offset : ℕ) (earlier : List Member) → (at : ℕ) × Contains (method_places offset earlier m) (record { offset = at; use_ = in_grammar grammars.MethodDescriptor m.descriptor })
descriptor_place m offset earlier =
    let place : PlacedUse = record { offset = offset + 2 + 2; use_ = in_grammar grammars.MethodDescriptor m.descriptor } in
    let code = at_offset offset (code_there m ∷ []) in
    let names = at_offset (offset + 2) (text_uses grammars.MethodName m.name ++ differs earlier m ∷ []) in
    let descriptor = at_offset (offset + 2 + 2) (text_uses grammars.MethodDescriptor m.descriptor) in
    let attributes = each_place (code_places m) (λ a. length (attribute a)) (offset + 8) [] m.attributes in
    let here : Contains descriptor place = (1, omega arith, refl) in
    (offset + 2 + 2, Contains-append_right code (names ++ descriptor ++ attributes) place (Contains-append_left (names ++ descriptor) attributes place (Contains-append_right names descriptor place here)))

pub is_method_descriptor : (c : ClassFile) (m : Member) (text : List ℕ) → IsSoundClass c → Contains c.methods m → text_at c.pool m.descriptor ≡ Some text → IsMethodDescriptor text
is_method_descriptor c m text sound (k, lt, is) e =
    let all = each_place method_places (λ m. length (member m)) (methods_offset c) [] in
    let use_ = in_grammar grammars.MethodDescriptor m.descriptor in
    let found = among method_places (λ m. length (member m)) m use_ (descriptor_place m) (methods_offset c) [] (take k c.methods) (drop (k + 1) c.methods) in
    let place : PlacedUse = record { offset = found.0; use_ = use_ } in
    let of_methods : Contains (all c.methods) place = subst (λ (ms : List Member). Contains (all ms) place) (sym (cut_around c.methods k m lt (sym is))) found.1 in
    let of_body : Contains (body_places c) place = Contains-append_right _ _ place (Contains-append_left (all c.methods) _ place of_methods) in
    let of_class : Contains (places_of c) place = Contains-append_right _ (header_places c ++ body_places c) place (Contains-append_right (header_places c) (body_places c) place of_body) in
    All-contains (λ (p : PlacedUse). UseHolds c.pool p.use_) (places_of c) place sound of_class text e

-- ---- its kinds

-- behind its dimensions a field type is a primitive type or a class
element_of : (d : ℕ) (text : List ℕ) → IsFieldType d text → (element : List ℕ) × IsFieldType 0 element × (text ≡ replicate d 91 ++ element)
element_of zero text is = (text, is, refl)
element_of (suc d) text is =
    let e = element_of d is.0 is.2 in
    (e.0, e.1, is.1 ∙ ap (λ (s : List ℕ). 91 ∷ s) e.2)

kind_by : (d : ℕ) (text : List ℕ) → d ≤ 255 → IsFieldType d text → (kind : Kind) × IsKind text kind
kind_by zero text limit (inl base) = (Prim (is_wide text), (base, refl))
kind_by zero text limit (inr object) = (Class object.0, (object.1, object.2))
kind_by (suc d) text limit is =
    let e = element_of (suc d) text is in
    (Array (suc d) e.0, (omega arith, limit, e.1, e.2))

kind_of : (text : List ℕ) → IsFieldDescriptor text → (kind : Kind) × IsKind text kind
kind_of text is = kind_by is.dimensions text is.limit is.type_is

kinds_of : (ps : List (List ℕ)) → AllByRecursion IsFieldDescriptor ps → (kinds : List Kind) × AllZip IsKind ps kinds
kinds_of [] each = ([], tt)
kinds_of (p ∷ ps) each =
    let k = kind_of p each.0 in
    let more = kinds_of ps each.1 in
    (k.0 ∷ more.0, (k.1, more.1))

outcome_of : (text : List ℕ) → (text ≡ codes "V") ⊎ IsFieldDescriptor text → (outcome : Option Kind) × IsOutcome text outcome
outcome_of text (inl void) = (None, void)
outcome_of text (inr field) = let k = kind_of text field in (Some k.0, k.1)

-- a method descriptor has kinds and an outcome
pub method_of : (text : List ℕ) → IsMethodDescriptor text → (kinds : List Kind) × (outcome : Option Kind) × IsMethodOf text kinds outcome
method_of text is =
    let ks = kinds_of is.parameters (recursion_from_All IsFieldDescriptor is.parameters is.each) in
    let o = outcome_of is.outcome is.outcome_is in
    (ks.0, o.0, record { parameters = is.parameters; outcome = is.outcome; spelled = is.spelled; each = ks.1; units = is.units; outcome_is = o.1 })
