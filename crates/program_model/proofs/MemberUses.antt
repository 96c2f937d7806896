-- What a sound class file says of the name and the descriptor of a field or a method.
use Rattle.std.proofs.Common.{◌≡◌, ℕ, ◌+◌, true, List, [], ◌∷◌, length, take, unwrap_or, Some, sym, ap, subst}
use Rattle.std.specs.List.{slice_get}
use Rattle.std.proofs.lemmas.Option.{slice_get_within, get_or_from_slice_get}
use Rattle.jvm_model.specs.declared.class_file.ClassFile.{ClassFile}
use Rattle.jvm_model.specs.declared.class_file.Member.{Member}
use Rattle.jvm_model.specs.declared.grammar.Grammar.{Grammar}
use Rattle.jvm_model.specs.declared.grammar.Grammar.TheVariants.{FieldName, FieldDescriptor, MethodName, MethodDescriptor}
use Rattle.jvm_model.specs.declared.pool.EntryKind.TheVariants as kinds
use Rattle.jvm_model.specs.declared.pool.PoolEntry.{PoolEntry}
use Rattle.jvm_model.specs.Lookups.{text_at}
use Rattle.jvm_model.specs.Programs.{text_or_none}
use Rattle.jvm_model.specs.Soundness.{Use, UseHolds, IsIn, TextIsIn, IsSoundClass, leads_to, each_place, attribute_places, code_places, field_places, method_places, name_places}
use Rattle.jvm_model.specs.Spelling.{attribute, member}
use Rattle.jvm_model.proofs.SoundUses.{Hold, Hold-left, Hold-right, at_place, sound_body, text_there}

-- The name and the descriptor lead to texts that are in their grammars, and are not those of an earlier member.
pub record HasNameUses (pool : List PoolEntry) (names descriptors : Grammar) (earlier : List Member) (m : Member) : Type 0 where
  pub name_leads : leads_to pool (kinds.Text ∷ []) m.name ≡ true
  pub name_in : TextIsIn pool names m.name
  pub differs : UseHolds pool (Use.differs earlier m)
  pub descriptor_leads : leads_to pool (kinds.Text ∷ []) m.descriptor ≡ true
  pub descriptor_in : TextIsIn pool descriptors m.descriptor

name_uses : (pool : List PoolEntry) (names descriptors : Grammar) (offset : ℕ) (earlier : List Member) (m : Member) → Hold pool (name_places names descriptors offset earlier m)
    → HasNameUses pool names descriptors earlier m
name_uses pool names descriptors offset earlier m h = record {
  name_leads = h.0;
  name_in = h.1.0;
  differs = h.1.1.0;
  descriptor_leads = h.1.1.1.0;
  descriptor_in = h.1.1.1.1.0;
}

module _ (c : ClassFile) (sound : IsSoundClass c) where
  pub field_uses : (k : ℕ) (m : Member) → slice_get c.fields k ≡ Some m → HasNameUses c.pool FieldName FieldDescriptor (take k c.fields) m
  field_uses k m e =
      let h = at_place c.pool field_places (λ m. length (member m)) _ c.fields k m (slice_get_within c.fields k m e) (sym (get_or_from_slice_get c.fields k m m e)) (Hold-left c.pool _ _ (sound_body c sound)) in
      let names = name_places FieldName FieldDescriptor (h.0 + 2) (take k c.fields) m in
      name_uses c.pool FieldName FieldDescriptor (h.0 + 2) (take k c.fields) m
      (Hold-left c.pool names (each_place attribute_places (λ a. length (attribute a)) (h.0 + 8) [] m.attributes) h.1)

  pub method_uses : (k : ℕ) (m : Member) → slice_get c.methods k ≡ Some m → HasNameUses c.pool MethodName MethodDescriptor (take k c.methods) m
  method_uses k m e =
      let h = at_place c.pool method_places (λ m. length (member m)) _ c.methods k m (slice_get_within c.methods k m e) (sym (get_or_from_slice_get c.methods k m m e)) (Hold-left c.pool _ _ (Hold-right c.pool _ _ (sound_body c sound))) in
      let names = name_places MethodName MethodDescriptor (h.0 + 2) (take k c.methods) m in
      name_uses c.pool MethodName MethodDescriptor (h.0 + 2) (take k c.methods) m
      (Hold-left c.pool names (each_place (code_places m) (λ a. length (attribute a)) (h.0 + 8) [] m.attributes) h.1.1)

-- the text at an index is what stands for it
pub text_is : (pool : List PoolEntry) (index : ℕ) (text : List ℕ) → text_at pool index ≡ Some text → text_or_none pool index ≡ text
text_is pool index text e = ap (λ t. unwrap_or t []) e

-- what stands for an index that leads to a text is in its grammar
pub text_in_grammar : (pool : List PoolEntry) (grammar : Grammar) (index : ℕ) → leads_to pool (kinds.Text ∷ []) index ≡ true → TextIsIn pool grammar index → IsIn grammar (text_or_none pool index)
text_in_grammar pool grammar index leads is =
    let text = text_there pool index leads in
    subst (IsIn grammar) (sym (text_is pool index text.0 text.1)) (is text.0 text.1)
