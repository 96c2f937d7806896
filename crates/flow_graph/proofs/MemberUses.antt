-- What a sound class file says of the fields, the methods and the call sites that its instructions name.
use Rattle.std.proofs.Common.{◌≡◌, ℕ, Bool, true, false, ◌||◌, List, [], ◌∷◌, Option, Some, None, option_and_then, refl, ap, ◌∙◌}
use Rattle.std.specs.List.{list_any}
use Rattle.std.specs.Option.{option_map_or}
use Rattle.jvm_model.specs.declared.grammar.Grammar.{Grammar}
use Rattle.jvm_model.specs.declared.grammar.Grammar.TheVariants as grammars
use Rattle.jvm_model.specs.declared.pool.EntryKind.{EntryKind}
use Rattle.jvm_model.specs.declared.pool.EntryKind.TheVariants as kinds
use Rattle.jvm_model.specs.declared.pool.PoolEntry.{PoolEntry}
use Rattle.jvm_model.specs.declared.pool.PoolEntry.TheVariants.{Utf8, Integer, Float, Long, Double, Class, Str, Fieldref, Methodref, InterfaceMethodref, NameAndType, MethodHandle, MethodType, InvokeDynamic, Taken}
use Rattle.jvm_model.specs.declared.class_file.ClassFile.{ClassFile}
use Rattle.jvm_model.specs.Descriptors.{IsMethodDescriptor}
use Rattle.jvm_model.specs.Instructions.{member_in, member_of, member_at}
use Rattle.jvm_model.specs.Lookups.{Signature, MemberReference, entry_at, text_at, signature_in, signature_at}
use Rattle.jvm_model.specs.Soundness.{IsIn, IsSoundClass, is_of_kind, leads_to}
use Rattle.jvm_model.proofs.SoundUses.{NamesClass, class_there, entry_holds, of_method, of_signature, text_there}
use Rattle.flow_graph.specs.Effects.{site_in, site_at}

-- ---- the entry that an index leads to

abbrev LeadsTo : List EntryKind → Option PoolEntry → Type 0
LeadsTo allowed o = option_map_or (λ (e : PoolEntry). list_any (λ (k : EntryKind). is_of_kind k e) allowed) o false ≡ true

of_field : (o : Option PoolEntry) → LeadsTo (kinds.Field ∷ []) o → (class : ℕ) × (signature : ℕ) × (o ≡ Some (Fieldref class signature))
of_field None h = absurd cc
of_field (Some (Utf8 bytes)) h = absurd cc
of_field (Some (Integer bits)) h = absurd cc
of_field (Some (Float bits)) h = absurd cc
of_field (Some (Long bits)) h = absurd cc
of_field (Some (Double bits)) h = absurd cc
of_field (Some (Class name)) h = absurd cc
of_field (Some (Str text)) h = absurd cc
of_field (Some (Fieldref class signature)) h = (class, signature, refl)
of_field (Some (Methodref class signature)) h = absurd cc
of_field (Some (InterfaceMethodref class signature)) h = absurd cc
of_field (Some (NameAndType name descriptor)) h = absurd cc
of_field (Some (MethodHandle kind reference)) h = absurd cc
of_field (Some (MethodType descriptor)) h = absurd cc
of_field (Some (InvokeDynamic bootstrap signature)) h = absurd cc
of_field (Some Taken) h = absurd cc

of_site : (o : Option PoolEntry) → LeadsTo (kinds.InvokeDynamic ∷ []) o → (bootstrap : ℕ) × (signature : ℕ) × (o ≡ Some (InvokeDynamic bootstrap signature))
of_site None h = absurd cc
of_site (Some (Utf8 bytes)) h = absurd cc
of_site (Some (Integer bits)) h = absurd cc
of_site (Some (Float bits)) h = absurd cc
of_site (Some (Long bits)) h = absurd cc
of_site (Some (Double bits)) h = absurd cc
of_site (Some (Class name)) h = absurd cc
of_site (Some (Str text)) h = absurd cc
of_site (Some (Fieldref class signature)) h = absurd cc
of_site (Some (Methodref class signature)) h = absurd cc
of_site (Some (InterfaceMethodref class signature)) h = absurd cc
of_site (Some (NameAndType name descriptor)) h = absurd cc
of_site (Some (MethodHandle kind reference)) h = absurd cc
of_site (Some (MethodType descriptor)) h = absurd cc
of_site (Some (InvokeDynamic bootstrap signature)) h = (bootstrap, signature, refl)
of_site (Some Taken) h = absurd cc

-- a method of a class or of an interface
data IsMethodEntry (o : Option PoolEntry) : Type 0 where
  of_class : (class signature : ℕ) → o ≡ Some (Methodref class signature) → IsMethodEntry o
  of_interface : (class signature : ℕ) → o ≡ Some (InterfaceMethodref class signature) → IsMethodEntry o

of_any_method : (o : Option PoolEntry) → LeadsTo (kinds.Method ∷ kinds.InterfaceMethod ∷ []) o → IsMethodEntry o
of_any_method None h = absurd cc
of_any_method (Some (Utf8 bytes)) h = absurd cc
of_any_method (Some (Integer bits)) h = absurd cc
of_any_method (Some (Float bits)) h = absurd cc
of_any_method (Some (Long bits)) h = absurd cc
of_any_method (Some (Double bits)) h = absurd cc
of_any_method (Some (Class name)) h = absurd cc
of_any_method (Some (Str text)) h = absurd cc
of_any_method (Some (Fieldref class signature)) h = absurd cc
of_any_method (Some (Methodref class signature)) h = of_class class signature refl
of_any_method (Some (InterfaceMethodref class signature)) h = of_interface class signature refl
of_any_method (Some (NameAndType name descriptor)) h = absurd cc
of_any_method (Some (MethodHandle kind reference)) h = absurd cc
of_any_method (Some (MethodType descriptor)) h = absurd cc
of_any_method (Some (InvokeDynamic bootstrap signature)) h = absurd cc
of_any_method (Some Taken) h = absurd cc

of_class_method : (o : Option PoolEntry) → LeadsTo (kinds.Method ∷ []) o → IsMethodEntry o
of_class_method o h = let e = of_method o h in of_class e.0 e.1 e.2

of_interface_method : (o : Option PoolEntry) → LeadsTo (kinds.InterfaceMethod ∷ []) o → IsMethodEntry o
of_interface_method None h = absurd cc
of_interface_method (Some e) h = of_any_method (Some e) (by (is_of_kind kinds.Method e) (is_of_kind kinds.InterfaceMethod e) h)
  where
    by : (a b : Bool) → (b || false) ≡ true → (a || (b || false)) ≡ true
    by true b h = refl
    by false b h = h

-- ---- what it names

-- a name and a descriptor, of which the descriptor is in its grammar
record HasSignature (pool : List PoolEntry) (index : ℕ) (grammar : Grammar) : Type 0 where
  pub signature : Signature
  pub named : signature_at pool index ≡ Some signature
  pub in_grammar : IsIn grammar signature.descriptor

signature_there : (c : ClassFile) (index : ℕ) (names descriptors : Grammar) → IsSoundClass c → leads_to c.pool (kinds.NameAndType ∷ []) index ≡ true
    → ((name descriptor : ℕ) → entry_at c.pool index ≡ Some (NameAndType name descriptor)
    → ((text : List ℕ) → text_at c.pool name ≡ Some text → IsIn names text) × ((text : List ℕ) → text_at c.pool descriptor ≡ Some text → IsIn descriptors text))
    → HasSignature c.pool index descriptors
signature_there c index names descriptors sound leads grammar =
    let e = of_signature (entry_at c.pool index) leads in
    let h = entry_holds c index (NameAndType e.0 e.1) sound e.2 in
    let name = text_there c.pool e.0 h.1.0 in
    let descriptor = text_there c.pool e.1 h.1.1.0 in
    let both : signature_in c.pool (NameAndType e.0 e.1) ≡ Some (record { name = name.0; descriptor = descriptor.0 }) = simp (name.1, descriptor.1) refl in
    record {
      signature = record { name = name.0; descriptor = descriptor.0 };
      named = ap (option_and_then (signature_in c.pool)) e.2 ∙ both;
      in_grammar = (grammar e.0 e.1 e.2).1 descriptor.0 descriptor.1;
    }

-- a member, of which the descriptor is in its grammar
pub record NamesMember (pool : List PoolEntry) (index : ℕ) (grammar : Grammar) : Type 0 where
  pub method : MemberReference
  pub named : member_at pool index ≡ Some method
  pub in_grammar : IsIn grammar method.signature.descriptor

member_there : (c : ClassFile) (index class signature : ℕ) (e : PoolEntry) (grammar : Grammar) → entry_at c.pool index ≡ Some e → member_of c.pool e ≡ member_in c.pool class signature
    → NamesClass c class → HasSignature c.pool signature grammar → NamesMember c.pool index grammar
member_there c index class signature e grammar is of named described =
    let m : MemberReference = record { class = named.name; signature = described.signature } in
    let both : member_in c.pool class signature ≡ Some m = simp (named.named, described.named) refl in
    record { method = m; named = ap (option_and_then (member_of c.pool)) is ∙ of ∙ both; in_grammar = described.in_grammar }

pub field_there : (c : ClassFile) (index : ℕ) → IsSoundClass c → leads_to c.pool (kinds.Field ∷ []) index ≡ true → NamesMember c.pool index grammars.FieldDescriptor
field_there c index sound leads =
    let e = of_field (entry_at c.pool index) leads in
    let h = entry_holds c index (Fieldref e.0 e.1) sound e.2 in
    member_there c index e.0 e.1 (Fieldref e.0 e.1) grammars.FieldDescriptor e.2 refl (class_there c e.0 sound h.1.0)
    (signature_there c e.1 grammars.FieldName grammars.FieldDescriptor sound h.1.1.0 h.1.1.1.0)

method_of : (c : ClassFile) (index : ℕ) → IsSoundClass c → IsMethodEntry (entry_at c.pool index) → NamesMember c.pool index grammars.MethodDescriptor
method_of c index sound (of_class class signature is) =
    let h = entry_holds c index (Methodref class signature) sound is in
    member_there c index class signature (Methodref class signature) grammars.MethodDescriptor is refl (class_there c class sound h.1.0)
    (signature_there c signature grammars.MethodName grammars.MethodDescriptor sound h.1.1.0 h.1.1.1.0)
method_of c index sound (of_interface class signature is) =
    let h = entry_holds c index (InterfaceMethodref class signature) sound is in
    member_there c index class signature (InterfaceMethodref class signature) grammars.MethodDescriptor is refl (class_there c class sound h.1.0)
    (signature_there c signature grammars.MethodName grammars.MethodDescriptor sound h.1.1.0 h.1.1.1.0)

pub any_method_there : (c : ClassFile) (index : ℕ) → IsSoundClass c → leads_to c.pool (kinds.Method ∷ kinds.InterfaceMethod ∷ []) index ≡ true → NamesMember c.pool index grammars.MethodDescriptor
any_method_there c index sound leads = method_of c index sound (of_any_method (entry_at c.pool index) leads)

pub class_method_there : (c : ClassFile) (index : ℕ) → IsSoundClass c → leads_to c.pool (kinds.Method ∷ []) index ≡ true → NamesMember c.pool index grammars.MethodDescriptor
class_method_there c index sound leads = method_of c index sound (of_class_method (entry_at c.pool index) leads)

pub interface_method_there : (c : ClassFile) (index : ℕ) → IsSoundClass c → leads_to c.pool (kinds.InterfaceMethod ∷ []) index ≡ true → NamesMember c.pool index grammars.MethodDescriptor
interface_method_there c index sound leads = method_of c index sound (of_interface_method (entry_at c.pool index) leads)

-- a call site
pub record NamesSite (pool : List PoolEntry) (index : ℕ) : Type 0 where
  pub signature : Signature
  pub named : site_at pool index ≡ Some signature
  pub in_grammar : IsMethodDescriptor signature.descriptor

pub site_there : (c : ClassFile) (index : ℕ) → IsSoundClass c → leads_to c.pool (kinds.InvokeDynamic ∷ []) index ≡ true → NamesSite c.pool index
site_there c index sound leads =
    let e = of_site (entry_at c.pool index) leads in
    let h = entry_holds c index (InvokeDynamic e.0 e.1) sound e.2 in
    let s = signature_there c e.1 grammars.MethodName grammars.MethodDescriptor sound h.1.0 h.1.1.0 in
    record { signature = s.signature; named = ap (option_and_then (site_in c.pool)) e.2 ∙ s.named; in_grammar = s.in_grammar }
