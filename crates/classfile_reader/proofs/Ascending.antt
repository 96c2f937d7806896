-- That the places of a class file ascend: each part of the list lies within the bytes of its part of the file.
use Rattle.std.proofs.Common.{◌≡◌, inl, inr, ℕ, suc, true, ◌+◌, ◌<◌, ◌≤◌, List, [], ◌∷◌, ◌++◌, length, All, AllPairs, Contains, Some, refl, sym, subst, arith, length-append}
use Rattle.std.specs.List.{flat_map, AllByRecursion}
use Rattle.std.specs.declared.cmp.Ordering.{Ordering}
use Rattle.std.specs.Ordering.{is_le}
use Rattle.std.proofs.lemmas.List.Elements.{All-append, All-from_recursion, recursion_from_All, All-contains}
use Rattle.std.proofs.lemmas.List.Kept.{AllPairs-cons}
use Rattle.jvm_model.specs.declared.class_file.ClassFile.{ClassFile}
use Rattle.jvm_model.specs.declared.class_file.Member.{Member}
use Rattle.jvm_model.specs.declared.class_file.Attribute.{Attribute}
use Rattle.jvm_model.specs.declared.grammar.Grammar.{Grammar}
use Rattle.jvm_model.specs.declared.grammar.Grammar.TheVariants.{ClassOrArray, FieldName, MethodName, FieldDescriptor, MethodDescriptor}
use Rattle.jvm_model.specs.declared.pool.EntryKind.TheVariants as kinds
use Rattle.jvm_model.specs.declared.pool.PoolEntry.{PoolEntry}
use Rattle.jvm_model.specs.declared.pool.PoolEntry.TheVariants.{Utf8, Integer, Float, Long, Double, Class, Str, Fieldref, Methodref, InterfaceMethodref, NameAndType, MethodHandle, MethodType, InvokeDynamic, Taken}
use Rattle.jvm_model.specs.declared.reason.Reason.{Reason}
use Rattle.jvm_model.specs.declared.reason.Reason.TheVariants.{BadIndex, BadUtf8, BadDescriptor, CodeMissing, CodeUnexpected}
use Rattle.jvm_model.specs.Soundness.{Use, PlacedUse, UseHolds, reason_of, at_offset, each_place, text_uses, class_uses, reference_uses, entry_uses, entry_places, attribute_places, code_places, name_places, field_places, method_places, header_places, body_places, places_of, flags_offset, fields_offset, methods_offset, attributes_offset}
use Rattle.jvm_model.specs.Spelling.{u2, entry, attribute, member}
use Rattle.jvm_model.proofs.Lengths.{two_each}
use Rattle.classfile_reader.specs.FirstPlace.{FirstBreach, IsFirstBreach}
use Rattle.classfile_reader.specs.Order.{IsNotBefore, AreAscending}

-- How the order has two reasons of places at one offset, the first of which stands first.
pub record Compares (order : Reason → Reason → Ordering) : Type 0 where
  pub two_indices : is_le (order BadIndex BadIndex) ≡ true
  pub two_texts : is_le (order BadDescriptor BadDescriptor) ≡ true
  pub index_text : is_le (order BadIndex BadDescriptor) ≡ true
  pub index_code : is_le (order BadIndex CodeUnexpected) ≡ true

-- ---- lists in which each item stands so to each later one

-- one list after another
pairs_append : {X : Type 0} (R : X → X → Type 0) (xs ys : List X) → AllPairs R xs → AllPairs R ys → All (λ x. All (R x) ys) xs → AllPairs R (xs ++ ys)
pairs_append R [] ys first second across = second
pairs_append R (x ∷ xs) ys first second across =
    let later : All (R x) xs = λ k d lt. first 0 (suc k) d (omega arith) (omega arith) in
    let rest : AllPairs R xs = λ i j d lt within. first (suc i) (suc j) d (omega arith) (omega arith) in
    let others : All (λ z. All (R z) ys) xs = λ k d lt. across (suc k) d (omega arith) in
    AllPairs-cons R x (xs ++ ys) (All-append (R x) xs ys later (across 0 x (omega arith))) (pairs_append R xs ys rest second others)

module _ (order : Reason → Reason → Ordering) where
  -- ---- places from an offset on, and before another one

  record Spans (low high : ℕ) (places : List PlacedUse) : Type 0 where
    pub within : All (λ (p : PlacedUse). (low ≤ p.offset) × (p.offset < high)) places
    pub ascends : AreAscending order places

  none : (low high : ℕ) → Spans low high []
  none low high = record { within = λ k d lt. absurd (omega arith); ascends = λ i j d lt within. absurd (omega arith) }

  joined : (low middle high : ℕ) (xs ys : List PlacedUse) → low ≤ middle → middle ≤ high → Spans low middle xs → Spans middle high ys → Spans low high (xs ++ ys)
  joined low middle high xs ys below above first second = record {
    within = All-append (λ (p : PlacedUse). (low ≤ p.offset) × (p.offset < high)) xs ys
        (λ k d lt. let h = first.within k d lt in (omega arith, omega arith))
        (λ k d lt. let h = second.within k d lt in (omega arith, omega arith));
    ascends = pairs_append (λ (p q : PlacedUse). IsNotBefore order p.offset (reason_of p.use_) q) xs ys first.ascends second.ascends
        (λ k d lt. λ j e inside. let h = first.within k d lt in let g = second.within j e inside in IsNotBefore.by_offset (omega arith));
  }

  wider : (low high start end : ℕ) (xs : List PlacedUse) → start ≤ low → high ≤ end → Spans low high xs → Spans start end xs
  wider low high start end xs below above s = record { within = λ k d lt. let h = s.within k d lt in (omega arith, omega arith); ascends = s.ascends }

  -- ---- uses at one offset

  -- the reasons of the uses ascend
  abbrev Rising : List Use → Type 0
  Rising [] = Unit {0}
  Rising (u ∷ us) = AllByRecursion (λ (v : Use). is_le (order (reason_of u) (reason_of v)) ≡ true) us × Rising us

  later_uses : (offset : ℕ) (u : Use) (us : List Use) → AllByRecursion (λ (v : Use). is_le (order (reason_of u) (reason_of v)) ≡ true) us
      → AllByRecursion (λ (q : PlacedUse). IsNotBefore order offset (reason_of u) q) (at_offset offset us)
  later_uses offset u [] h = tt
  later_uses offset u (v ∷ us) h = (IsNotBefore.by_reason refl h.0, later_uses offset u us h.1)

  rising_places : (offset : ℕ) (us : List Use) → Rising us → AreAscending order (at_offset offset us)
  rising_places offset [] h = λ i j d lt within. absurd (omega arith)
  rising_places offset (u ∷ us) h =
      AllPairs-cons (λ (p q : PlacedUse). IsNotBefore order p.offset (reason_of p.use_) q) (record { offset = offset; use_ = u }) (at_offset offset us)
      (All-from_recursion (λ (q : PlacedUse). IsNotBefore order offset (reason_of u) q) (at_offset offset us) (later_uses offset u us h.0))
      (rising_places offset us h.1)

  here : (offset : ℕ) (us : List Use) → AllByRecursion (λ (p : PlacedUse). (offset ≤ p.offset) × (p.offset < offset + 1)) (at_offset offset us)
  here offset [] = tt
  here offset (u ∷ us) = ((omega arith, omega arith), here offset us)

  at_one : (offset high : ℕ) (us : List Use) → offset < high → Rising us → Spans offset high (at_offset offset us)
  at_one offset high us lt h = wider offset (offset + 1) offset high (at_offset offset us) (omega arith) (omega arith) (record {
    within = All-from_recursion (λ (p : PlacedUse). (offset ≤ p.offset) × (p.offset < offset + 1)) (at_offset offset us) (here offset us);
    ascends = rising_places offset us h;
  })

  -- ---- items one after the other

  each : {X : Type 0} (places : ℕ → List X → X → List PlacedUse) (text : X → List ℕ) → ((offset : ℕ) (earlier : List X) (x : X) → Spans offset (offset + length (text x)) (places offset earlier x))
      → (offset : ℕ) (earlier xs : List X) → Spans offset (offset + length (flat_map text xs)) (each_place places (λ x. length (text x)) offset earlier xs)
  each places text item offset earlier [] = none offset (offset + 0)
  each places text item offset earlier (x ∷ xs) =
      let there = offset + length (text x) in
      let high = offset + length (text x ++ flat_map text xs) in
      let end : there + length (flat_map text xs) ≡ high = omega (arith, length-append (text x) (flat_map text xs)) in
      joined offset there high (places offset earlier x) _ (omega arith) (omega arith) (item offset earlier x)
      (subst (λ (h : ℕ). Spans there h (each_place places (λ x. length (text x)) there (earlier ++ x ∷ []) xs)) end (each places text item there (earlier ++ x ∷ []) xs))

  -- ---- the parts of a class file

  module _ (rules : Compares order) where
    text_rises : (grammar : Grammar) (index : ℕ) → Rising (text_uses grammar index)
    text_rises grammar index = ((rules.index_text, tt), (tt, tt))

    class_rises : (index : ℕ) → Rising (class_uses index)
    class_rises index = ((rules.index_text, tt), (tt, tt))

    reference_rises : (names descriptors : Grammar) (class member : ℕ) → Rising (reference_uses names descriptors class member)
    reference_rises names descriptors class member = ((rules.two_indices, (rules.index_text, tt)), ((rules.index_text, tt), (tt, tt)))

    name_rises : (names : Grammar) (earlier : List Member) (m : Member) → Rising (text_uses names m.name ++ Use.differs earlier m ∷ [])
    name_rises names earlier m = ((rules.index_text, (rules.index_text, tt)), ((rules.two_texts, tt), (tt, tt)))

    at_tag : (major offset : ℕ) (e : PoolEntry) → 0 < length (entry e) → Rising (entry_uses major e) → Spans offset (offset + length (entry e)) (at_offset offset (entry_uses major e))
    at_tag major offset e lt h = at_one offset (offset + length (entry e)) (entry_uses major e) (omega arith) h

    entry_spans : (major offset : ℕ) (earlier : List PoolEntry) (e : PoolEntry) → Spans offset (offset + length (entry e)) (entry_places major offset earlier e)
    entry_spans major offset earlier (Utf8 bytes) = at_tag major offset (Utf8 bytes) (omega arith) (tt, tt)
    entry_spans major offset earlier (Integer bits) = at_tag major offset (Integer bits) (omega arith) tt
    entry_spans major offset earlier (Float bits) = at_tag major offset (Float bits) (omega arith) tt
    entry_spans major offset earlier (Long bits) = at_tag major offset (Long bits) (omega arith) tt
    entry_spans major offset earlier (Double bits) = at_tag major offset (Double bits) (omega arith) tt
    entry_spans major offset earlier (Class name) = at_tag major offset (Class name) (omega arith) (text_rises ClassOrArray name)
    entry_spans major offset earlier (Str text) = at_tag major offset (Str text) (omega arith) (tt, tt)
    entry_spans major offset earlier (Fieldref class member) = at_tag major offset (Fieldref class member) (omega arith) (reference_rises FieldName FieldDescriptor class member)
    entry_spans major offset earlier (Methodref class member) = at_tag major offset (Methodref class member) (omega arith) (reference_rises MethodName MethodDescriptor class member)
    entry_spans major offset earlier (InterfaceMethodref class member) = at_tag major offset (InterfaceMethodref class member) (omega arith) (reference_rises MethodName MethodDescriptor class member)
    entry_spans major offset earlier (NameAndType name descriptor) = at_tag major offset (NameAndType name descriptor) (omega arith) ((rules.two_indices, (rules.index_text, tt)), ((rules.index_text, tt), (tt, tt)))
    entry_spans major offset earlier (MethodHandle kind reference) = at_tag major offset (MethodHandle kind reference) (omega arith) (tt, tt)
    entry_spans major offset earlier (MethodType descriptor) = at_tag major offset (MethodType descriptor) (omega arith) (text_rises MethodDescriptor descriptor)
    entry_spans major offset earlier (InvokeDynamic bootstrap member) = at_tag major offset (InvokeDynamic bootstrap member) (omega arith) ((rules.index_text, tt), (tt, tt))
    entry_spans major offset earlier Taken = none offset (offset + 0)

    attribute_spans : (offset : ℕ) (earlier : List Attribute) (a : Attribute) → Spans offset (offset + length (attribute a)) (attribute_places offset earlier a)
    attribute_spans offset earlier a = at_one offset (offset + length (attribute a)) (Use.leads (kinds.Text ∷ []) a.name ∷ []) (omega arith) (tt, tt)

    code_spans : (m : Member) (offset : ℕ) (earlier : List Attribute) (a : Attribute) → Spans offset (offset + length (attribute a)) (code_places m offset earlier a)
    code_spans m offset earlier a =
        at_one offset (offset + length (attribute a)) (Use.leads (kinds.Text ∷ []) a.name ∷ Use.code_allowed m earlier a ∷ []) (omega arith) ((rules.index_code, tt), (tt, tt))

    name_spans : (names descriptors : Grammar) (offset : ℕ) (earlier : List Member) (m : Member) → Spans offset (offset + 4) (name_places names descriptors offset earlier m)
    name_spans names descriptors offset earlier m =
        joined offset (offset + 2) (offset + 4) _ _ (omega arith) (omega arith)
        (at_one offset (offset + 2) (text_uses names m.name ++ Use.differs earlier m ∷ []) (omega arith) (name_rises names earlier m))
        (at_one (offset + 2) (offset + 4) (text_uses descriptors m.descriptor) (omega arith) (text_rises descriptors m.descriptor))

    member_length : (m : Member) → length (member m) ≡ 8 + length (flat_map attribute m.attributes)
    member_length m = simp length-append (omega arith)

    -- what follows the flags of a member
    named : (names descriptors : Grammar) (places : ℕ → List Attribute → Attribute → List PlacedUse) → ((offset : ℕ) (earlier : List Attribute) (a : Attribute) → Spans offset (offset + length (attribute a)) (places offset earlier a))
        → (offset : ℕ) (earlier : List Member) (m : Member)
        → Spans (offset + 2) (offset + length (member m)) (name_places names descriptors (offset + 2) earlier m ++ each_place places (λ a. length (attribute a)) (offset + 8) [] m.attributes)
    named names descriptors places item offset earlier m =
        let end = offset + length (member m) in
        let size = member_length m in
        joined (offset + 2) (offset + 8) end _ _ (omega arith) (omega arith)
        (wider (offset + 2) (offset + 2 + 4) (offset + 2) (offset + 8) _ (omega arith) (omega arith) (name_spans names descriptors (offset + 2) earlier m))
        (wider (offset + 8) (offset + 8 + length (flat_map attribute m.attributes)) (offset + 8) end _ (omega arith) (omega arith) (each places attribute item (offset + 8) [] m.attributes))

    field_spans : (offset : ℕ) (earlier : List Member) (m : Member) → Spans offset (offset + length (member m)) (field_places offset earlier m)
    field_spans offset earlier m =
        let end = offset + length (member m) in
        wider (offset + 2) end offset end _ (omega arith) (omega arith) (named FieldName FieldDescriptor attribute_places attribute_spans offset earlier m)

    method_spans : (offset : ℕ) (earlier : List Member) (m : Member) → Spans offset (offset + length (member m)) (method_places offset earlier m)
    method_spans offset earlier m =
        let end = offset + length (member m) in
        let size = member_length m in
        joined offset (offset + 2) end _ _ (omega arith) (omega arith)
        (at_one offset (offset + 2) (Use.code_there m ∷ []) (omega arith) (tt, tt))
        (named MethodName MethodDescriptor (code_places m) (code_spans m) offset earlier m)

    interface_spans : (offset : ℕ) (earlier : List ℕ) (index : ℕ) → Spans offset (offset + length (u2 index)) (at_offset offset (class_uses index))
    interface_spans offset earlier index = at_one offset (offset + 2) (class_uses index) (omega arith) (class_rises index)

    header_spans : (c : ClassFile) → Spans (flags_offset c) (fields_offset c) (header_places c)
    header_spans c =
        let flags = flags_offset c in
        let fields = fields_offset c in
        let size = two_each c.interfaces in
        let interfaces = each (λ (offset : ℕ) (earlier : List ℕ) (index : ℕ). at_offset offset (class_uses index)) u2 interface_spans (flags + 8) [] c.interfaces in
        joined flags (flags + 4) fields _ _ (omega arith) (omega arith)
        (wider (flags + 2) (flags + 4) flags (flags + 4) _ (omega arith) (omega arith) (at_one (flags + 2) (flags + 4) (class_uses c.this_class) (omega arith) (class_rises c.this_class)))
        (joined (flags + 4) (flags + 8) fields _ _ (omega arith) (omega arith)
        (at_one (flags + 4) (flags + 8) (Use.superclass c.this_class c.super_class ∷ Use.no_array c.super_class ∷ []) (omega arith) ((rules.index_text, tt), (tt, tt)))
        (wider (flags + 8) (flags + 8 + length (flat_map u2 c.interfaces)) (flags + 8) fields _ (omega arith) (omega arith) interfaces))

    body_spans : (c : ClassFile) → Spans (fields_offset c) (attributes_offset c + length (flat_map attribute c.attributes)) (body_places c)
    body_spans c =
        let fields = fields_offset c in
        let methods = methods_offset c in
        let attributes = attributes_offset c in
        let high = attributes + length (flat_map attribute c.attributes) in
        joined fields methods high _ _ (omega arith) (omega arith)
        (wider fields (fields + length (flat_map member c.fields)) fields methods _ (omega arith) (omega arith) (each field_places member field_spans fields [] c.fields))
        (joined methods attributes high _ _ (omega arith) (omega arith)
        (wider methods (methods + length (flat_map member c.methods)) methods attributes _ (omega arith) (omega arith) (each method_places member method_spans methods [] c.methods))
        (each attribute_places attribute attribute_spans attributes [] c.attributes))

    class_spans : (c : ClassFile) → Spans 10 (attributes_offset c + length (flat_map attribute c.attributes)) (places_of c)
    class_spans c =
        let high = attributes_offset c + length (flat_map attribute c.attributes) in
        joined 10 (flags_offset c) high _ _ (omega arith) (omega arith)
        (each (entry_places c.major) entry (entry_spans c.major) 10 [] c.pool)
        (joined (flags_offset c) (fields_offset c) high _ _ (omega arith) (omega arith) (header_spans c) (body_spans c))

    pub all_ascend : (c : ClassFile) → AreAscending order (places_of c)
    all_ascend c = (class_spans c).ascends

  -- ---- the first place that does not hold

  -- each reason is no lower than itself
  pub record KnowsItself : Type 0 where
    pub index : is_le (order BadIndex BadIndex) ≡ true
    pub bytes : is_le (order BadUtf8 BadUtf8) ≡ true
    pub text : is_le (order BadDescriptor BadDescriptor) ≡ true
    pub missing : is_le (order CodeMissing CodeMissing) ≡ true
    pub unexpected : is_le (order CodeUnexpected CodeUnexpected) ≡ true

  itself : KnowsItself → (u : Use) → is_le (order (reason_of u) (reason_of u)) ≡ true
  itself same (Use.text_bytes bytes) = same.bytes
  itself same (Use.leads allowed index) = same.index
  itself same (Use.superclass this_class index) = same.index
  itself same (Use.in_grammar grammar index) = same.text
  itself same (Use.signature names descriptors index) = same.text
  itself same (Use.either_signature name descriptor) = same.text
  itself same (Use.no_array index) = same.text
  itself same (Use.differs earlier m) = same.text
  itself same (Use.code_there m) = same.missing
  itself same (Use.code_allowed m earlier a) = same.unexpected

  -- the places before the one that is told hold, and those after it are not before it
  least : KnowsItself → (pool : List PoolEntry) (places : List PlacedUse) (offset : ℕ) (reason : Reason) → AreAscending order places → FirstBreach pool places (Some (offset, reason))
      → AllByRecursion (λ (q : PlacedUse). ¬ UseHolds pool q.use_ → IsNotBefore order offset reason q) places
  least same pool [] offset reason up first = tt
  least same pool (p ∷ places) offset reason up (inl (holds, first)) =
      let rest : AreAscending order places = λ i j d lt within. up (suc i) (suc j) d (omega arith) (omega arith) in
      (λ breaks. absurd (breaks holds), least same pool places offset reason rest first)
  least same pool (p ∷ places) offset reason up (inr (breaks, e)) =
      subst (λ (t : ℕ × Reason). AllByRecursion (λ (q : PlacedUse). ¬ UseHolds pool q.use_ → IsNotBefore order t.0 t.1 q) (p ∷ places)) (told (p.offset, reason_of p.use_) (offset, reason) (sym e)) (λ _. IsNotBefore.by_reason refl (itself same p.use_), after pool p places up)
    where
      told : (s t : ℕ × Reason) → Some s ≡ Some t → s ≡ t
      told s t e = cc

      after : (pool : List PoolEntry) (p : PlacedUse) (places : List PlacedUse) → AreAscending order (p ∷ places) → AllByRecursion (λ (q : PlacedUse). ¬ UseHolds pool q.use_ → IsNotBefore order p.offset (reason_of p.use_) q) places
      after pool p places up =
          recursion_from_All (λ (q : PlacedUse). ¬ UseHolds pool q.use_ → IsNotBefore order p.offset (reason_of p.use_) q) places (λ k d lt. λ _. up 0 (suc k) d (omega arith) (omega arith))

  pub first_is_least : KnowsItself → (pool : List PoolEntry) (places : List PlacedUse) (offset : ℕ) (reason : Reason) → AreAscending order places → IsFirstBreach pool places (Some (offset, reason))
      → (p : PlacedUse) → Contains places p → ¬ UseHolds pool p.use_ → IsNotBefore order offset reason p
  first_is_least same pool places offset reason up first p in_list =
      All-contains (λ (q : PlacedUse). ¬ UseHolds pool q.use_ → IsNotBefore order offset reason q) places p
      (All-from_recursion (λ (q : PlacedUse). ¬ UseHolds pool q.use_ → IsNotBefore order offset reason q) places (least same pool places offset reason up first.is)) in_list
