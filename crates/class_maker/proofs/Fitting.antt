-- A class file that fits its fields has lists that fit their counts.
use Rattle.std.proofs.Common.{◌<◌, ◌^◌, List, length, subst}
use Rattle.std.specs.List.{AllByRecursion}
use Rattle.std.proofs.lemmas.List.Elements.{All-from_recursion, All-weaker}
use Rattle.jvm_model.specs.declared.pool.PoolEntry.{PoolEntry}
use Rattle.jvm_model.specs.declared.pool.PoolEntry.TheVariants.{Utf8}
use Rattle.jvm_model.specs.declared.class_file.ClassFile.{ClassFile}
use Rattle.jvm_model.specs.declared.class_file.Member.{Member}
use Rattle.jvm_model.specs.declared.class_file.Attribute.{Attribute}
use Rattle.jvm_model.specs.Spelling.{ClassFits, EntryFits, AttributeFits, MemberFits}
use Rattle.class_maker.specs.Counts.{IsCountedEntry, IsCountedAttribute, IsCountedTable, IsCountedMember, IsCountedClass}

fitting_entry : (e : PoolEntry) → EntryFits e → IsCountedEntry e
fitting_entry e fits bytes is =
    let at_text : EntryFits (Utf8 bytes) = subst EntryFits is fits in
    at_text.0

fitting_table : {X : Type 0} (Fits counted : X → Type 0) → ((x : X) → Fits x → counted x) → (items : List X)
    → length items < 2 ^ 16 → AllByRecursion Fits items → IsCountedTable counted items
fitting_table Fits counted each items count fits = record { count = count; each = All-weaker Fits counted each items (All-from_recursion Fits items fits) }

fitting_attribute : (a : Attribute) → AttributeFits a → IsCountedAttribute a
fitting_attribute a fits = fits.body

fitting_member : (m : Member) → MemberFits m → IsCountedMember m
fitting_member m fits = fitting_table AttributeFits IsCountedAttribute fitting_attribute m.attributes fits.count fits.attributes

pub fitting_class : (c : ClassFile) → ClassFits c → IsCountedClass c
fitting_class c fits = record {
  pool_count = fits.pool_count;
  pool = All-weaker EntryFits IsCountedEntry fitting_entry c.pool (All-from_recursion EntryFits c.pool fits.pool);
  interface_count = fits.interface_count;
  fields = fitting_table MemberFits IsCountedMember fitting_member c.fields fits.field_count fits.fields;
  methods = fitting_table MemberFits IsCountedMember fitting_member c.methods fits.method_count fits.methods;
  attributes = fitting_table AttributeFits IsCountedAttribute fitting_attribute c.attributes fits.attribute_count fits.attributes;
}
