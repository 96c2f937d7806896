-- The text at the index of a member's descriptor is that descriptor.
use Rattle.std.proofs.Common.{◌≡◌, ℕ, List, Option, Some, None, option_and_then, option_map, ap}
use Rattle.std.proofs.lemmas.Option.{same_Some}
use Rattle.jvm_model.specs.declared.pool.PoolEntry.{PoolEntry}
use Rattle.jvm_model.specs.declared.pool.PoolEntry.TheVariants.{Fieldref, Methodref, InterfaceMethodref, NameAndType, InvokeDynamic}
use Rattle.jvm_model.specs.Instructions.{member_in, member_of, member_at}
use Rattle.jvm_model.specs.Lookups.{MemberReference, Signature, entry_at, text_at, class_name_at, signature_in, signature_at}
use Rattle.flow_graph.specs.Effects.{site_in, site_at}
use Rattle.flow_graph.specs.Reading.{descriptor_index_in, signature_descriptor_at, member_descriptor_in, member_descriptor_at, site_descriptor_in, site_descriptor_at}

signature_text : (pool : List PoolEntry) (index : ℕ) (s : Signature) → signature_at pool index ≡ Some s → option_and_then (text_at pool) (signature_descriptor_at pool index) ≡ Some s.descriptor
signature_text pool index s e = by (entry_at pool index) e
  where
    both : (n d : Option (List ℕ)) → option_and_then (λ (x : List ℕ). option_map (λ (y : List ℕ). let z : Signature = record { name = x; descriptor = y } in z) d) n ≡ Some s → d ≡ Some s.descriptor
    both None d h = absurd cc
    both (Some n) None h = absurd cc
    both (Some n) (Some d) h = ap Some (ap (λ (t : Signature). t.descriptor) (same_Some (record { name = n; descriptor = d }) s h))

    by : (o : Option PoolEntry) → option_and_then (signature_in pool) o ≡ Some s → option_and_then (text_at pool) (option_and_then descriptor_index_in o) ≡ Some s.descriptor
    by None h = absurd cc
    by (Some (NameAndType name descriptor)) h = both (text_at pool name) (text_at pool descriptor) h
    by (Some entry) h = absurd cc

pub member_text : (pool : List PoolEntry) (index : ℕ) (m : MemberReference) → member_at pool index ≡ Some m → option_and_then (text_at pool) (member_descriptor_at pool index) ≡ Some m.signature.descriptor
member_text pool index m e = by (entry_at pool index) e
  where
    named : (c : Option (List ℕ)) (o : Option Signature) → option_and_then (λ (x : List ℕ). option_map (λ (s : Signature). let z : MemberReference = record { class = x; signature = s } in z) o) c ≡ Some m → o ≡ Some m.signature
    named None o h = absurd cc
    named (Some c) None h = absurd cc
    named (Some c) (Some s) h = ap Some (ap (λ (n : MemberReference). n.signature) (same_Some (record { class = c; signature = s }) m h))

    there : (class signature : ℕ) → member_in pool class signature ≡ Some m → option_and_then (text_at pool) (signature_descriptor_at pool signature) ≡ Some m.signature.descriptor
    there class signature h = signature_text pool signature m.signature (named (class_name_at pool class) (signature_at pool signature) h)

    by : (o : Option PoolEntry) → option_and_then (member_of pool) o ≡ Some m → option_and_then (text_at pool) (option_and_then (member_descriptor_in pool) o) ≡ Some m.signature.descriptor
    by None h = absurd cc
    by (Some (Fieldref class signature)) h = there class signature h
    by (Some (Methodref class signature)) h = there class signature h
    by (Some (InterfaceMethodref class signature)) h = there class signature h
    by (Some entry) h = absurd cc

pub site_text : (pool : List PoolEntry) (index : ℕ) (s : Signature) → site_at pool index ≡ Some s → option_and_then (text_at pool) (site_descriptor_at pool index) ≡ Some s.descriptor
site_text pool index s e = by (entry_at pool index) e
  where
    by : (o : Option PoolEntry) → option_and_then (site_in pool) o ≡ Some s → option_and_then (text_at pool) (option_and_then (site_descriptor_in pool) o) ≡ Some s.descriptor
    by None h = absurd cc
    by (Some (InvokeDynamic bootstrap signature)) h = signature_text pool signature s h
    by (Some entry) h = absurd cc
