-- The class that an instruction concerns, and the number of a class, are one.
use Rattle.std.proofs.Common.{◌≡◌, ℕ, Bool, true, List, [], ◌∷◌, ◌++◌, Option, Some, None, refl, sym, ap, ◌∙◌, subst}
use Rattle.std.specs.List.{slice_get}
use Rattle.std.specs.Option.{option_and_then, option_map, option_to_list}
use Rattle.std.specs.Prelude.{unwrap_or}
use Rattle.std.proofs.lemmas.List.Elements.{All-contains}
use Rattle.std.proofs.lemmas.Option.{none-some, same_Some, slice_get-map, slice_get_within}
use Rattle.jvm_model.specs.declared.number.ClassNo.{ClassNo}
use Rattle.jvm_model.specs.declared.pool.PoolEntry.{PoolEntry}
use Rattle.jvm_model.specs.declared.pool.PoolEntry.TheVariants.{Class as ClassEntry}
use Rattle.jvm_model.specs.Descriptors.{IsFieldDescriptor, IsMethodDescriptor}
use Rattle.jvm_model.specs.Instructions.{member_at, member_of}
use Rattle.jvm_model.specs.LinkedPrograms.{IsProgram, IsSoundEntry, class_names}
use Rattle.jvm_model.specs.Lookups.{MemberReference, Signature, class_index_in, entry_at, text_at}
use Rattle.jvm_model.specs.Programs.{Class, Field, Method, Program}
use Rattle.jvm_model.specs.Resolution.{FindsAmong, FindsField, above, first, itself as in_class, later, nowhere}
use Rattle.jvm_model.proofs.FieldKinds.{field_of_kind, no_field}
use Rattle.jvm_model.proofs.Parameters.{joined}
use Rattle.program_laws.proofs.Signed.{IsSigned, resolved_signed}
use Rattle.program_model.proofs.Bridges.{one_name}
use Rattle.hierarchy.proofs.ClassPlaces.{contained}
use Rattle.lowering_handlers.proofs.ParameterCounts.{method_descriptor}
use Rattle.machine_bytecode.specs.Machine.{Concerns, NamesClass, NamesField, NamesMethod, of_class, of_field, of_method}
use Rattle.machine_nodes.specs.Nodes.{IsClassNumber}
use Rattle.lowering_laws.proofs.Named.{one_class, same_field, same_method}

-- ---- a field has the name and the descriptor by which it is found

record FieldSigned (p : Program) (s : Signature) (number : ℕ) : Type 0 where
  field : Field
  stands : slice_get p.fields number ≡ Some field
  is : field.signature ≡ s

mutual
  found_signed : (p : Program) (s : Signature) (class : List ℕ) (o : Option ℕ) (n : ℕ) → o ≡ Some n → FindsField p s class o → FieldSigned p s n
  found_signed p s class o n e (in_class _ i x) = subst (FieldSigned p s) (same_Some i n e) (record { field = x.field; stands = x.stands; is = x.is })
  found_signed p s class o n e (above _ _ c named none among) = among_signed p s (c.interfaces ++ option_to_list c.super_class) o n e among

  among_signed : (p : Program) (s : Signature) (classes : List (List ℕ)) (o : Option ℕ) (n : ℕ) → o ≡ Some n → FindsAmong p s classes o → FieldSigned p s n
  among_signed p s classes o n e nowhere = absurd (none-some n e)
  among_signed p s classes o n e (first class others i x) = found_signed p s class (Some i) n e x
  among_signed p s classes o n e (later class others _ none x) = among_signed p s others o n e x

-- ---- no name and descriptor is that of a field and of a method

field_descriptor : (p : Program) → IsProgram p → (s : Signature) (n : ℕ) → FieldSigned p s n → IsFieldDescriptor s.descriptor
field_descriptor p program s n x =
    let sound = All-contains IsSoundEntry p.fields x.field program.entries (contained p.fields n x.field x.stands) in
    subst (λ (t : Signature). IsFieldDescriptor t.descriptor) x.is (field_of_kind x.field.signature.descriptor sound.kind sound.descriptor)

descriptor_of_method : (p : Program) → IsProgram p → (s : Signature) (n : ℕ) → IsSigned p s n → IsMethodDescriptor s.descriptor
descriptor_of_method p program s n x = subst (λ (t : Signature). IsMethodDescriptor t.descriptor) x.is (method_descriptor p program n x.method x.stands)

never_both : (text : List ℕ) → IsFieldDescriptor text → IsMethodDescriptor text → ⊥
never_both text field m = no_field 40 text (joined m.parameters ++ 41 ∷ m.outcome) refl m.spelled field

field_or_method : (p : Program) (pool : List PoolEntry) (operand : ℕ) (wants_static : Bool) → IsProgram p → NamesField p pool operand wants_static → NamesMethod p pool operand → ⊥
field_or_method p pool operand wants_static program x y =
    let named : x.named ≡ y.called = same_Some x.named y.called (sym x.is_named ∙ y.named) in
    let field = field_descriptor p program x.named.signature x.number (found_signed p x.named.signature x.named.class (Some x.number) x.number refl x.found) in
    let of_method = descriptor_of_method p program y.called.signature y.resolved (resolved_signed p y.called.class y.called.signature y.resolves.class y.resolved y.resolves.search) in
    never_both y.called.signature.descriptor (subst (λ (m : MemberReference). IsFieldDescriptor m.signature.descriptor) named field) of_method

-- no entry is one of a class and of a member
entry_of_both : (pool : List PoolEntry) (e : Option PoolEntry) (name : List ℕ) (m : MemberReference) → option_and_then (text_at pool) (option_and_then class_index_in e) ≡ Some name
    → option_and_then (member_of pool) e ≡ Some m → ⊥
entry_of_both pool None name m x y = none-some name x
entry_of_both pool (Some (ClassEntry n)) name m x y = none-some m y
entry_of_both pool (Some _) name m x y = none-some name x

class_or_member : (pool : List PoolEntry) (operand : ℕ) (n : NamesClass pool operand) (m : MemberReference) → member_at pool operand ≡ Some m → ⊥
class_or_member pool operand n m named = entry_of_both pool (entry_at pool operand) n.class m n.named named

-- ---- the class that is concerned

pub one_concerned : (p : Program) (pool : List PoolEntry) (operand : ℕ) (a b : List ℕ) → IsProgram p → Concerns p pool operand a → Concerns p pool operand b → a ≡ b
one_concerned p pool operand a b program (of_class n is) (of_class m is2) = sym is ∙ one_class pool operand n m ∙ is2
one_concerned p pool operand a b program (of_class n is) (of_field m is2) = absurd (class_or_member pool operand n m.named m.is_named)
one_concerned p pool operand a b program (of_class n is) (of_method m is2) = absurd (class_or_member pool operand n m.called m.named)
one_concerned p pool operand a b program (of_field n is) (of_class m is2) = absurd (class_or_member pool operand m n.named n.is_named)
one_concerned p pool operand a b program (of_field n is) (of_field m is2) = sym is ∙ ap (λ (f : Field). f.class) (same_field p pool operand true program n m).field ∙ is2
one_concerned p pool operand a b program (of_field n is) (of_method m is2) = absurd (field_or_method p pool operand true program n m)
one_concerned p pool operand a b program (of_method n is) (of_class m is2) = absurd (class_or_member pool operand m n.called n.named)
one_concerned p pool operand a b program (of_method n is) (of_field m is2) = absurd (field_or_method p pool operand true program m n)
one_concerned p pool operand a b program (of_method n is) (of_method m is2) = sym is ∙ ap (λ (k : Method). k.class) (same_method p pool operand program n m).method ∙ is2

-- ---- its number

name_stands : (p : Program) (number : ClassNo) (name : List ℕ) → IsClassNumber p number name → slice_get (class_names p) number.0 ≡ Some name
name_stands p number name x = slice_get-map (λ (c : Class). c.name) p.classes number.0 ∙ ap (option_map (λ (c : Class). c.name)) x.stands ∙ ap (λ (n : List ℕ). Some n) x.named

pub one_class_number : (p : Program) (a b : ClassNo) (name : List ℕ) → IsProgram p → IsClassNumber p a name → IsClassNumber p b name → a ≡ b
one_class_number p a b name program x y =
    let names = class_names p in
    let at_a = name_stands p a name x in
    let at_b = name_stands p b name y in
    let same = one_name names program.differ a.0 b.0 (slice_get_within names a.0 name at_a) (slice_get_within names b.0 name at_b) (ap (λ (o : Option (List ℕ)). unwrap_or o []) (at_a ∙ sym at_b)) in
    λ i. record { 0 = same i }
